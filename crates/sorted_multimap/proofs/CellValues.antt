-- How an edit changes the values of cells.
use Rattle.std.proofs.Common.{◌≡◌, ℕ, Bool, true, false, cond, List, [], ◌∷◌, ◌++◌, Some, None, refl, sym, ◌∙◌, ap}
use Rattle.std.specs.List.{remove}
use Rattle.std.specs.Ordering.{is_eq}
use Rattle.teb_rules.specs.declared.names.Cell.{Cell}
use Rattle.teb_rules.specs.names.Cells.{same_cell, cell_cmp}
use Rattle.teb_rules.proofs.lemmas.names.CellOrder.{same_cell-cell_cmp}
use Rattle.teb_rules.proofs.lemmas.names.SameCells.{same_cell-true}
use Rattle.sorted_multimap.specs.LastMatches.{IsLastPlace, without_last}
use Rattle.sorted_multimap.proofs.TakenMatches.{last_there, last_nowhere}

-- a value is pushed to the values of x
pub pushed_cell : {V : Type 0} (f : Cell → List V) (x y : Cell) (v : V) → cond (is_eq (cell_cmp x y)) (f x ++ v ∷ []) (f y) ≡ cond (same_cell x y) (f y ++ v ∷ []) (f y)
pushed_cell {V} f x y v = go (same_cell x y) refl
  where
    go : (b : Bool) → same_cell x y ≡ b → cond (is_eq (cell_cmp x y)) (f x ++ v ∷ []) (f y) ≡ cond b (f y ++ v ∷ []) (f y)
    go true h = ap (λ (o : Bool). cond o (f x ++ v ∷ []) (f y)) (sym (same_cell-cell_cmp x y) ∙ h) ∙ ap (λ (z : Cell). f z ++ v ∷ []) (same_cell-true x y h)
    go false h = ap (λ (o : Bool). cond o (f x ++ v ∷ []) (f y)) (sym (same_cell-cell_cmp x y) ∙ h)

-- the last value that passes is removed from the values of x
module _ {V : Type 0} (p : V → Bool) (f : Cell → List V) (x y : Cell) where
  pub taken_last : (i : ℕ) → IsLastPlace p (f x) (Some i) → cond (is_eq (cell_cmp x y)) (remove (f x) i) (f y) ≡ cond (same_cell x y) (without_last p (f y)) (f y)
  taken_last i h = go (same_cell x y) refl
    where
      go : (b : Bool) → same_cell x y ≡ b → cond (is_eq (cell_cmp x y)) (remove (f x) i) (f y) ≡ cond b (without_last p (f y)) (f y)
      go true e = ap (λ (o : Bool). cond o (remove (f x) i) (f y)) (sym (same_cell-cell_cmp x y) ∙ e) ∙ sym (last_there p (f x) i h) ∙ ap (λ (z : Cell). without_last p (f z)) (same_cell-true x y e)
      go false e = ap (λ (o : Bool). cond o (remove (f x) i) (f y)) (sym (same_cell-cell_cmp x y) ∙ e)

  pub taken_none : IsLastPlace p (f x) None → f y ≡ cond (same_cell x y) (without_last p (f y)) (f y)
  taken_none h = go (same_cell x y) refl
    where
      go : (b : Bool) → same_cell x y ≡ b → f y ≡ cond b (without_last p (f y)) (f y)
      go true e = ap f (sym (same_cell-true x y e)) ∙ sym (last_nowhere p (f x) h) ∙ ap (λ (z : Cell). without_last p (f z)) (same_cell-true x y e)
      go false e = refl
