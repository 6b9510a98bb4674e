-- If the numbers of a history fit, so do those of its report: each value was put or was there at the start.
use Rattle.std.proofs.Common.{◌≡◌, ℕ, ◌<◌, ◌^◌, ◌==◌, Bool, true, false, cond, ◌&&◌, eqb, List, [], ◌∷◌, map, Option, Some, None, unwrap_or, refl, sym, ◌∙◌, subst, inl, inr}
use Rattle.std.specs.Prelude.{ℤ}
use Rattle.std.specs.List.{All}
use Rattle.std.proofs.lemmas.Bool.{eqb-true, or_cases}
use Rattle.std.proofs.lemmas.List.Elements.{All-nil, All-cons, All-head, All-tail}
use Rattle.teb_rules.specs.declared.names.Txn.{Txn}
use Rattle.teb_rules.specs.declared.names.Cell.{Cell}
use Rattle.teb_rules.specs.declared.names.naming.NameBook.{NameBook}
use Rattle.teb_rules.specs.names.Cells.{same_cell}
use Rattle.teb_rules.specs.names.Rows.{row_of}
use Rattle.teb_rules.specs.declared.history.Event.{Event}
use Rattle.teb_rules.specs.declared.history.Event.TheVariants.{Began, Got, Put, Ready, Done, Gone, Told}
use Rattle.teb_rules.specs.history.Phases as history
use Rattle.teb_rules.specs.history.Accesses.{last_put}
use Rattle.teb_rules.specs.Setup.{Store}
use Rattle.teb_rules.specs.Serializes.{In, Serializes, final_table, value_of}
use Rattle.teb_rules.specs.Versions.{value_left}
use Rattle.teb_rules.proofs.lemmas.names.SameCells.{same_cell-true}
use Rattle.script_text.specs.Ranges.{TxnFits, ValueFits}
use Rattle.audit_check.specs.Standings.{committed}
use Rattle.audit_law.specs.Printed.{CellFits, RowFits, EventFits}
use Rattle.audit_law.proofs.Ascending.{Apart, HasRow, rows_stand}
use Rattle.audit_law.proofs.Bridge.{items, committed_items}

module _ (names : NameBook) where
  -- the number of a committed transaction fits
  done_fits : (H : List Event) (t : ℕ) → All (EventFits names) H → committed (items names [] H) t ≡ true → t < 2 ^ 32
  unfolding committed
  done_fits [] t fit h = absurd (cc)
  done_fits (Done u ∷ P) t fit h = elim (or_cases (u.0 == t) (committed (items names [] P) t) h) [
    | inl same ↦ subst (λ n. n < 2 ^ 32) (eqb-true u.0 t same) (All-head (EventFits names) (Done u) P fit)
    | inr below ↦ done_fits P t (All-tail (EventFits names) (Done u) P fit) below
  ]
  done_fits (Began u s k i ∷ P) t fit h = done_fits P t (All-tail (EventFits names) (Began u s k i) P fit) h
  done_fits (Got u x w v ∷ P) t fit h = done_fits P t (All-tail (EventFits names) (Got u x w v) P fit) h
  done_fits (Put u x v ∷ P) t fit h = done_fits P t (All-tail (EventFits names) (Put u x v) P fit) h
  done_fits (Ready u ∷ P) t fit h = done_fits P t (All-tail (EventFits names) (Ready u) P fit) h
  done_fits (Gone u c ∷ P) t fit h = done_fits P t (All-tail (EventFits names) (Gone u c) P fit) h
  done_fits (Told u ∷ P) t fit h = done_fits P t (All-tail (EventFits names) (Told u) P fit) h

  listed_fit : (H : List Event) (all : List ℕ) (order : List Txn) → All (EventFits names) H → ((t : ℕ) → In t all → history.committed H t ≡ true) → ((t : ℕ) → In t (map (λ u. u.0) order) → In t all)
      → All TxnFits order
  listed_fit H all [] fit each part = All-nil TxnFits
  listed_fit H all (t ∷ ts) fit each part =
      All-cons TxnFits t ts (done_fits H t.0 fit (committed_items names [] H t.0 ∙ each t.0 (part t.0 (inl refl)))) (listed_fit H all ts fit each (λ u i. part u (inr i)))

  pub order_fits : (X : Store) (H : List Event) (order : List Txn) → All (EventFits names) H → Serializes X H (map (λ t. t.0) order) → All TxnFits order
  order_fits X H order fit serial = listed_fit H (map (λ t. t.0) order) order fit (λ t i. (serial.each t).0 i) (λ t i. i)

  -- a row that a lookup finds in rows that fit also fits
  row_fits : (rows : List (Cell × ℤ)) (x : Cell) (v : ℤ) → All (RowFits names) rows → row_of rows x ≡ Some v → RowFits names (x, v)
  row_fits [] x v fit e = absurd (cc)
  row_fits (r ∷ rs) x v fit e = here (row_fits rs x v (All-tail (RowFits names) r rs fit)) (same_cell r.0 x) refl e
    where
      here : (row_of rs x ≡ Some v → RowFits names (x, v)) → (b : Bool) → same_cell r.0 x ≡ b → cond b (Some r.1) (row_of rs x) ≡ Some v → RowFits names (x, v)
      here more true s p =
          let value : r.1 ≡ v = cc in
          subst (λ (w : ℤ). RowFits names (x, w)) value (subst (λ (y : Cell). RowFits names (y, r.1)) (same_cell-true r.0 x s) (All-head (RowFits names) r rs fit))
      here more false s p = more p

  -- a value that was put fits
  put_fits : (H : List Event) (t : ℕ) (x : Cell) (v : Option ℤ) → All (EventFits names) H → last_put H t x ≡ Some v → CellFits names x × ValueFits v
  unfolding last_put
  put_fits [] t x v fit e = absurd (cc)
  put_fits (Put u y w ∷ P) t x v fit e = here (put_fits P t x v (All-tail (EventFits names) (Put u y w) P fit)) (eqb u.0 t) (same_cell y x) refl e
    where
      here : (last_put P t x ≡ Some v → CellFits names x × ValueFits v) → (a b : Bool) → same_cell y x ≡ b → cond (a && b) (Some w) (last_put P t x) ≡ Some v → CellFits names x × ValueFits v
      here more true true s p =
          let value : w ≡ v = cc in
          let fits = All-head (EventFits names) (Put u y w) P fit in
          (subst (CellFits names) (same_cell-true y x s) fits.1, subst ValueFits value fits.2)
      here more true false s p = more p
      here more false b s p = more p
  put_fits (Began u s k i ∷ P) t x v fit e = put_fits P t x v (All-tail (EventFits names) (Began u s k i) P fit) e
  put_fits (Got u y w z ∷ P) t x v fit e = put_fits P t x v (All-tail (EventFits names) (Got u y w z) P fit) e
  put_fits (Ready u ∷ P) t x v fit e = put_fits P t x v (All-tail (EventFits names) (Ready u) P fit) e
  put_fits (Done u ∷ P) t x v fit e = put_fits P t x v (All-tail (EventFits names) (Done u) P fit) e
  put_fits (Gone u c ∷ P) t x v fit e = put_fits P t x v (All-tail (EventFits names) (Gone u c) P fit) e
  put_fits (Told u ∷ P) t x v fit e = put_fits P t x v (All-tail (EventFits names) (Told u) P fit) e

  left_fits : (H : List Event) (w : ℕ) (x : Cell) (v : ℤ) → All (EventFits names) H → value_left H w x ≡ Some v → RowFits names (x, v)
  left_fits H w x v fit e = go (last_put H w x) refl e
    where
      go : (o : Option (Option ℤ)) → last_put H w x ≡ o → unwrap_or o None ≡ Some v → RowFits names (x, v)
      go None p q = absurd (cc)
      go (Some u) p q = let put = put_fits H w x u fit p in (put.0, subst ValueFits q put.1)

  module _ (X : Store) (H : List Event) (starts : All (RowFits names) X.rows) (fit : All (EventFits names) H) where
    value_fits : (x : Cell) (o : Option ℕ) (v : ℤ) → value_of X H x o ≡ Some v → RowFits names (x, v)
    value_fits x (Some w) v e = left_fits H w x v fit e
    value_fits x None v e = row_fits X.rows x v starts e

    final_fits : (x : Cell) (v : ℤ) → final_table X H x ≡ Some v → RowFits names (x, v)
    unfolding final_table
    final_fits x v e = value_fits x _ v e

    each_fits : (all rows : List (Cell × ℤ)) → ((x : Cell) → row_of all x ≡ final_table X H x) → All (HasRow all) rows → All (RowFits names) rows
    each_fits all [] final has = All-nil (RowFits names)
    each_fits all (r ∷ rs) final has =
        All-cons (RowFits names) r rs (final_fits r.0 r.1 (sym (final r.0) ∙ All-head (HasRow all) r rs has)) (each_fits all rs final (All-tail (HasRow all) r rs has))

  pub rows_fit : (X : Store) (H : List Event) (rows : List (Cell × ℤ)) → All (RowFits names) X.rows → All (EventFits names) H → Apart rows → ((x : Cell) → row_of rows x ≡ final_table X H x)
      → All (RowFits names) rows
  rows_fit X H rows starts fit apart final = each_fits X H starts fit rows rows final (rows_stand rows apart)
