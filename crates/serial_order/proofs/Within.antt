-- The rows of the final tables are of tables of the store.
use Rattle.std.proofs.Common.{◌≡◌, ℕ, zero, suc, ◌<◌, Bool, true, false, cond, ◌&&◌, List, [], ◌∷◌, get_or, Option, Some, None, unwrap_or, ℤ, eqb, refl, sym, ◌∙◌, subst, arith}
use Rattle.std.proofs.lemmas.Cmp.{tied_itself}
use Rattle.std.specs.Prelude.{All}
use Rattle.teb_rules.specs.declared.names.Cell.{Cell}
use Rattle.teb_rules.specs.names.Cells.{same_cell}
use Rattle.teb_rules.specs.names.Rows.{row_of}
use Rattle.teb_rules.proofs.lemmas.names.CellOrder.{cell_cmp_total}
use Rattle.teb_rules.proofs.lemmas.names.Ascending.{row_of_tied}
use Rattle.teb_rules.specs.declared.history.Event.{Event}
use Rattle.teb_rules.specs.declared.history.Event.TheVariants.{Began, Got, Put, Ready, Done, Gone, Told}
use Rattle.teb_rules.specs.history.Accesses.{last_put}
use Rattle.teb_rules.specs.Setup.{Store}
use Rattle.teb_rules.specs.Versions.{value_left}
use Rattle.teb_rules.specs.Serializes.{final_table, value_of}
use Rattle.teb_rules.specs.laws.Within.{CellWithin, AllWithin}
use Rattle.teb_rules.proofs.lemmas.names.SameCells.{same_cell-true}
use Rattle.teb_rules.specs.Epochs.{AreFinalRows}

-- if all rows are of the first tables, so is each cell that has a row
pub row_within : (tables : ℕ) (rows : List (Cell × ℤ)) (x : Cell) (v : ℤ) → All (λ (r : Cell × ℤ). r.0.table.0 < tables) rows → row_of rows x ≡ Some v → x.table.0 < tables
row_within tables [] x v within e = absurd (cc)
row_within tables (r ∷ rs) x v within e = here (row_within tables rs x v (λ k d low. within (suc k) d (omega (arith, low)))) (same_cell r.0 x) refl e
  where
    here : (row_of rs x ≡ Some v → x.table.0 < tables) → (b : Bool) → same_cell r.0 x ≡ b → cond b (Some r.1) (row_of rs x) ≡ Some v → x.table.0 < tables
    here behind true s p = subst (λ (y : Cell). y.table.0 < tables) (same_cell-true r.0 x s) (within zero r (omega arith))
    here behind false s p = behind p

module _ (X : Store) where
  put_within : (H : List Event) (t : ℕ) (x : Cell) (v : Option ℤ) → AllWithin X H → last_put H t x ≡ Some v → CellWithin X x
  unfolding last_put
  put_within [] t x v h e = absurd (cc)
  put_within (Put u y w ∷ P) t x v h e = here (put_within P t x v h.1) (eqb u.0 t) (same_cell y x) refl e
    where
      here : (last_put P t x ≡ Some v → CellWithin X x) → (a b : Bool) → same_cell y x ≡ b → cond (a && b) (Some w) (last_put P t x) ≡ Some v → CellWithin X x
      here below true true s p = subst (λ (z : Cell). CellWithin X z) (same_cell-true y x s) h.0
      here below true false s p = below p
      here below false b s p = below p
  put_within (Began u s k i ∷ P) t x v h e = put_within P t x v h.1 e
  put_within (Got u y w z ∷ P) t x v h e = put_within P t x v h.1 e
  put_within (Ready u ∷ P) t x v h e = put_within P t x v h.1 e
  put_within (Done u ∷ P) t x v h e = put_within P t x v h.1 e
  put_within (Gone u c ∷ P) t x v h e = put_within P t x v h.1 e
  put_within (Told u ∷ P) t x v h e = put_within P t x v h.1 e

  left_within : (H : List Event) (w : ℕ) (x : Cell) (v : ℤ) → AllWithin X H → value_left H w x ≡ Some v → CellWithin X x
  left_within H w x v h e = go (last_put H w x) refl e
    where
      go : (o : Option (Option ℤ)) → last_put H w x ≡ o → unwrap_or o None ≡ Some v → CellWithin X x
      go None p q = absurd (cc)
      go (Some u) p q = put_within H w x u h p

  value_within : (H : List Event) (x : Cell) (o : Option ℕ) (v : ℤ) → AllWithin X H → (row_of X.rows x ≡ Some v → CellWithin X x) → value_of X H x o ≡ Some v → CellWithin X x
  value_within H x (Some w) v h start e = left_within H w x v h e
  value_within H x None v h start e = start e

  final_within : (H : List Event) (x : Cell) (v : ℤ) → AllWithin X H → (row_of X.rows x ≡ Some v → CellWithin X x) → final_table X H x ≡ Some v → CellWithin X x
  unfolding final_table
  final_within H x v h start e = value_within H x _ v h start e

  -- if all starting rows and events are of the store's tables, so are the final rows
  pub rows_within : (H : List Event) (rows : List (Cell × ℤ)) → ((x : Cell) (v : ℤ) → row_of X.rows x ≡ Some v → CellWithin X x)
      → AllWithin X H → AreFinalRows X H rows → All (λ (r : Cell × ℤ). CellWithin X r.0) rows
  rows_within H rows start h f k d low =
      let r = get_or rows k d in
      final_within H r.0 r.1 h (start r.0 r.1) (sym (f.each r.0) ∙ row_of_tied rows k d r.0 f.ascending low (tied_itself cell_cmp_total r.0))
