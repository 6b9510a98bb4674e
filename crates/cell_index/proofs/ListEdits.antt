-- The list of each cell after a cell is added, and after an edit of one list.
use Rattle.std.proofs.Common.{◌≡◌, ℕ, ◌<◌, Bool, true, false, cond, eqb, List, [], ◌∷◌, ◌++◌, length, get_or, set, inl, inr, refl, sym, ◌∙◌, ap, subst, arith, if◌then◌else◌}
use Rattle.std.specs.List.{list_any, IsDistinct}
use Rattle.std.proofs.lemmas.Map.Keys.{IsDistinct-push}
use Rattle.std.proofs.Math.ListN.{length-set}
use Rattle.teb_rules.specs.declared.names.Cell.{Cell}
use Rattle.teb_rules.specs.names.Cells.{same_cell}
use Rattle.cell_index.specs.Cells.{place_in, with_cell, with_place}
use Rattle.cell_index.specs.Lists.{list_for}
use Rattle.teb_rules.proofs.lemmas.names.SameCells.{same_cell-true, same_laws}
use Rattle.cell_index.proofs.Places.{decided, place_none, place_absent, same_place, with_known, with_new, put_place, put_length}
use Rattle.cell_index.proofs.Lists.{set_tells, list_with_place, length-with_place, grown}

-- an edit of the value of c is an edit of the value of each cell equal to c
pub at_cell : {A : Type 0} (f : Cell → A) (g : A → A) (c x : Cell) → cond (same_cell c x) (g (f c)) (f x) ≡ cond (same_cell c x) (g (f x)) (f x)
at_cell {A} f g c x = go (same_cell c x) refl
  where
    go : (b : Bool) → same_cell c x ≡ b → cond b (g (f c)) (f x) ≡ cond b (g (f x)) (f x)
    go true e = ap (λ (z : Cell). g (f z)) (same_cell-true c x e)
    go false e = refl

-- distinct cells stay distinct when c is added
pub distinct-with_cell : (cells : List Cell) (c : Cell) → IsDistinct same_cell cells → IsDistinct same_cell (with_cell cells c)
distinct-with_cell cells c d = elim (decided (list_any (same_cell c) cells)) [
  | inl e ↦ subst (IsDistinct same_cell) (sym (with_known cells c e)) d
  | inr e ↦ subst (IsDistinct same_cell) (sym (with_new cells c e)) (IsDistinct-push same_laws cells c d e)
]

-- the list of c becomes L
pub list_edited : {V : Type 0} (cells : List Cell) (lists lists' : List (List V)) (c : Cell) (p : ℕ) (L : List V) → length lists ≡ length cells → p ≡ place_in cells c → p < length lists
    → lists' ≡ set lists p L
    → (x : Cell) → list_for cells lists' x ≡ cond (same_cell c x) L (list_for cells lists x)
list_edited cells lists lists' c p L paired here lt edit x =
    let q = place_in cells x in
    ap (λ (l : List (List _)). get_or l q []) edit
    ∙ set_tells lists p q L lt
    ∙ ap (λ (b : Bool). cond b L (get_or lists q [])) (ap (eqb q) here ∙ same_place cells c x (omega (arith, here, lt, paired)))

-- c is added
module _ {V : Type 0} (cells : List Cell) (lists : List (List V)) (c : Cell) where
  -- it gets a new list if it has no place
  pub new_list : place_in cells c ≡ length cells → with_place cells c lists ≡ lists ++ [] ∷ []
  new_list here = ap (λ (b : Bool). if b then lists else lists ++ [] ∷ []) (place_absent cells c here)

  pub known_list : (place_in cells c ≡ length cells → ⊥) → with_place cells c lists ≡ lists
  known_list other = elim (decided (list_any (same_cell c) cells)) [
    | inl e ↦ ap (λ (b : Bool). if b then lists else lists ++ [] ∷ []) e
    | inr e ↦ absurd (other (place_none cells c e))
  ]

  module _ (paired : length lists ≡ length cells) (cells' : List Cell) (lists1 : List (List V)) (e : cells' ≡ with_cell cells c) (f : lists1 ≡ with_place cells c lists) where
    -- the list of each cell is unchanged
    pub placed : (x : Cell) → list_for cells' lists1 x ≡ list_for cells lists x
    placed x = (λ j. get_or (f j) (place_in (e j) x) []) ∙ grown cells lists c paired x

    pub placed_count : length lists1 ≡ length cells'
    placed_count = ap length f ∙ length-with_place cells lists c paired ∙ sym (ap length e)

    module _ (p : ℕ) (here : p ≡ place_in cells c) where
      pub placed_within : p < length lists1
      placed_within = let n = ap length f ∙ length-with_place cells lists c paired in let m = put_length cells c in omega (arith, n, m, here)

      pub placed_list : get_or lists1 p [] ≡ list_for cells lists c
      placed_list = (λ j. get_or (f j) (here j) []) ∙ list_with_place cells lists c (place_in cells c)

      -- and its list becomes L
      module _ (lists' : List (List V)) (L : List V) (edit : lists' ≡ set lists1 p L) where
        pub placed_edited_count : length lists' ≡ length cells'
        placed_edited_count = ap length edit ∙ length-set lists1 p L ∙ placed_count

        pub placed_edited : (x : Cell) → list_for cells' lists' x ≡ cond (same_cell c x) L (list_for cells lists x)
        placed_edited x =
            let own : p ≡ place_in cells' c = here ∙ sym (put_place cells c) ∙ sym (ap (λ (l : List Cell). place_in l c) e) in
            list_edited cells' lists1 lists' c p L placed_count own placed_within edit x ∙ ap (λ (l : List V). cond (same_cell c x) L l) (placed x)
