-- Lists by the places of cells, after a cell is added and after an edit of a list.
use Rattle.std.proofs.Common.{◌≡◌, ℕ, zero, suc, ◌<◌, Bool, cond, eqb, List, [], ◌∷◌, ◌++◌, length, get_or, set, inl, inr, refl, sym, ◌∙◌, ap, arith, if◌then◌else◌, length-append}
use Rattle.std.specs.List.{list_any}
use Rattle.std.proofs.lemmas.Bool.Decides.{eqb_tells}
use Rattle.std.proofs.lemmas.List.{get_or_past, get_or-set_other}
use Rattle.std.proofs.lemmas.Grind.{get_or-set_at}
use Rattle.teb_rules.specs.declared.names.Cell.{Cell}
use Rattle.teb_rules.specs.names.Cells.{same_cell}
use Rattle.cell_index.specs.Cells.{place_in, with_cell, with_place}
use Rattle.cell_index.proofs.Places.{decided, with_known, with_new, put_other}

-- list j after list i became L
pub set_tells : {A : Type 0} (ls : List (List A)) (i j : ℕ) (L : List A) → i < length ls → get_or (set ls i L) j [] ≡ cond (eqb j i) L (get_or ls j [])
set_tells ls i j L lt = elim (eqb_tells j i) [
  | inl p ↦ get_or-set_at ls i j L [] p.1 lt ∙ sym (ap (λ (b : Bool). cond b L (get_or ls j [])) p.0)
  | inr p ↦ get_or-set_other ls i j L [] p.1 ∙ sym (ap (λ (b : Bool). cond b L (get_or ls j [])) p.0)
]

-- one more empty list at the end shows nothing new
pub with_empty : {A : Type 0} (ls : List (List A)) (j : ℕ) → get_or (ls ++ [] ∷ []) j [] ≡ get_or ls j []
with_empty [] zero = refl
with_empty [] (suc j) = refl
with_empty (l ∷ ls) zero = refl
with_empty (l ∷ ls) (suc j) = with_empty ls j

module _ {V : Type 0} (cells : List Cell) (lists : List (List V)) (c : Cell) where
  -- each list, after a place is made for c
  pub list_with_place : (j : ℕ) → get_or (with_place cells c lists) j [] ≡ get_or lists j []
  list_with_place j = elim (decided (list_any (same_cell c) cells)) [
    | inl e ↦ ap (λ (b : Bool). get_or (if b then lists else lists ++ [] ∷ []) j []) e
    | inr e ↦ ap (λ (b : Bool). get_or (if b then lists else lists ++ [] ∷ []) j []) e ∙ with_empty lists j
  ]

  module _ (paired : length lists ≡ length cells) where
    pub length-with_place : length (with_place cells c lists) ≡ length (with_cell cells c)
    length-with_place = elim (decided (list_any (same_cell c) cells)) [
      | inl e ↦ ap (λ (b : Bool). length (if b then lists else lists ++ [] ∷ [])) e ∙ paired ∙ sym (ap length (with_known cells c e))
      | inr e ↦
          let more : length (lists ++ [] ∷ []) ≡ length (cells ++ c ∷ []) = (let m = length-append lists ([] ∷ []) in let n = length-append cells (c ∷ []) in omega (arith, m, n, paired)) in
          ap (λ (b : Bool). length (if b then lists else lists ++ [] ∷ [])) e ∙ more ∙ sym (ap length (with_new cells c e))
    ]

    -- the lists are unchanged
    pub grown : (x : Cell) → get_or (with_place cells c lists) (place_in (with_cell cells c) x) [] ≡ get_or lists (place_in cells x) []
    grown x =
        list_with_place (place_in (with_cell cells c) x)
        ∙ elim (put_other cells c x) [
          | inl s ↦ ap (λ j. get_or lists j []) s
          | inr s ↦ get_or_past lists _ [] (omega (arith, s.0, paired)) ∙ sym (get_or_past lists _ [] (omega (arith, s.1, paired)))
        ]
