-- The places of cells: which cells have one, and how they change when a cell is added.
use Rattle.std.proofs.Common.{◌≡◌, ◌⊎◌, ℕ, zero, suc, ◌+◌, ◌<◌, ◌≤◌, ◌||◌, max, Bool, true, false, cond, not, eqb, List, []}
use Rattle.std.proofs.Common.{◌∷◌, ◌++◌, length, get_or, refl, sym, ◌∙◌, ap, inl, inr, arith, if◌then◌else◌, length-append}
use Rattle.std.specs.List.{list_any, IsDistinct, AllByRecursion}
use Rattle.std.proofs.lemmas.Bool.Decides.{eqb_tells, nat_tests}
use Rattle.std.proofs.lemmas.List.Folds.{position_or_len_push}
use Rattle.std.proofs.lemmas.Map.Keys.{IsDistinct-head, IsDistinct-tail, IsDistinct-push}
use Rattle.teb_rules.specs.declared.names.Cell.{Cell}
use Rattle.teb_rules.specs.names.Cells.{same_cell}
use Rattle.cell_index.specs.Cells.{place_in, with_cell}
use Rattle.teb_rules.proofs.lemmas.names.SameCells.{same_itself, same_laws}

pub decided : (b : Bool) → (b ≡ true) ⊎ (b ≡ false)
decided true = inl refl
decided false = inr refl

-- the place of a cell that is not in the list is the length
pub place_none : (cells : List Cell) (x : Cell) → list_any (same_cell x) cells ≡ false → place_in cells x ≡ length cells
place_none [] x h = refl
place_none (c ∷ cells) x h = elim (decided (same_cell x c)) [
  | inl e ↦ absurd (let z : true ≡ false = sym (ap (λ (b : Bool). b || list_any (same_cell x) cells) e) ∙ h in cc)
  | inr e ↦ ap (λ (b : Bool). cond (not b) (1 + place_in cells x) 0) e ∙ (let r = place_none cells x (sym (ap (λ (b : Bool). b || list_any (same_cell x) cells) e) ∙ h) in omega (arith, r))
]

pub place_some : (cells : List Cell) (x : Cell) → list_any (same_cell x) cells ≡ true → place_in cells x < length cells
place_some [] x h = absurd (cc)
place_some (c ∷ cells) x h = elim (decided (same_cell x c)) [
  | inl e ↦ let z = ap (λ (b : Bool). cond (not b) (1 + place_in cells x) 0) e in omega (arith, z)
  | inr e ↦
      let z = ap (λ (b : Bool). cond (not b) (1 + place_in cells x) 0) e in
      let r = place_some cells x (sym (ap (λ (b : Bool). b || list_any (same_cell x) cells) e) ∙ h) in
      omega (arith, r, z)
]

-- a cell whose place is the length is not in the list
pub place_absent : (cells : List Cell) (x : Cell) → place_in cells x ≡ length cells → list_any (same_cell x) cells ≡ false
place_absent cells x h = elim (decided (list_any (same_cell x) cells)) [
  | inl e ↦ let lt = place_some cells x e in absurd (omega (arith, lt, h))
  | inr e ↦ e
]

both_up : (m n : ℕ) → eqb (1 + m) (1 + n) ≡ eqb m n
both_up m n = grind (arith, nat_tests)

one_up : (m : ℕ) → (eqb (1 + m) 0 ≡ false) × (eqb 0 (1 + m) ≡ false)
one_up m = (grind (arith, nat_tests), grind (arith, nat_tests))

-- two cells have the same place if and only if they are the same
pub same_place : (cells : List Cell) (x y : Cell) → place_in cells x < length cells → eqb (place_in cells y) (place_in cells x) ≡ same_cell x y
same_place [] x y lt = absurd (omega arith)
same_place (c ∷ cells) x y lt = go (same_cell x c) (same_cell y c) refl refl (same_place cells x y)
  where
    up : Bool → ℕ → ℕ
    up b n = cond (not b) (1 + n) 0

    go : (a b : Bool) → same_cell x c ≡ a → same_cell y c ≡ b → (place_in cells x < length cells → eqb (place_in cells y) (place_in cells x) ≡ same_cell x y)
        → eqb (place_in (c ∷ cells) y) (place_in (c ∷ cells) x) ≡ same_cell x y
    go true true e f ih = (λ j. eqb (up (f j) (place_in cells y)) (up (e j) (place_in cells x))) ∙ sym (same_laws.congr x c y e ∙ same_laws.symm c y ∙ f)
    go true false e f ih = (λ j. eqb (up (f j) (place_in cells y)) (up (e j) (place_in cells x))) ∙ (one_up (place_in cells y)).0 ∙ sym (same_laws.congr x c y e ∙ same_laws.symm c y ∙ f)
    go false true e f ih = (λ j. eqb (up (f j) (place_in cells y)) (up (e j) (place_in cells x))) ∙ (one_up (place_in cells x)).1
        ∙ sym (same_laws.symm x y ∙ same_laws.congr y c x f ∙ same_laws.symm c x ∙ e)
    go false false e f ih =
        let z = ap (λ (b : Bool). up b (place_in cells x)) e in
        (λ j. eqb (up (f j) (place_in cells y)) (up (e j) (place_in cells x))) ∙ both_up (place_in cells y) (place_in cells x) ∙ ih (omega (arith, lt, z))

-- the cell at place p has the place p
pub place_back : (cells : List Cell) (p : ℕ) (d : Cell) → IsDistinct same_cell cells → p < length cells → place_in cells (get_or cells p d) ≡ p
place_back [] p d distinct lt = absurd (omega arith)
place_back (c ∷ cells) zero d distinct lt = ap (λ (b : Bool). cond (not b) (1 + place_in cells c) 0) (same_itself c)
place_back (c ∷ cells) (suc p) d distinct lt =
    let x = get_or cells p d in
    let other : same_cell x c ≡ false = same_laws.symm x c ∙ at_all (λ y. same_cell c y ≡ false) cells p (IsDistinct-head same_cell c cells distinct) (omega arith) in
    let ih = place_back cells p d (IsDistinct-tail same_cell c cells distinct) (omega arith) in
    ap (λ (b : Bool). cond (not b) (1 + place_in cells x) 0) other ∙ omega (arith, ih)
  where
    at_all : (P : Cell → Type 0) (xs : List Cell) (i : ℕ) → AllByRecursion P xs → i < length xs → P (get_or xs i d)
    at_all P [] i h k = absurd (omega arith)
    at_all P (x ∷ xs) zero h k = h.0
    at_all P (x ∷ xs) (suc i) h k = at_all P xs i h.1 (omega arith)

-- x has the place p if and only if it is the cell at p
pub place_tells : (cells : List Cell) (p : ℕ) (d x : Cell) → IsDistinct same_cell cells → p < length cells → eqb (place_in cells x) p ≡ same_cell (get_or cells p d) x
place_tells cells p d x distinct lt =
    let back = place_back cells p d distinct lt in
    ap (eqb (place_in cells x)) (sym back) ∙ same_place cells (get_or cells p d) x (omega (arith, back, lt))

-- after c is added
module _ (cells : List Cell) (c : Cell) where
  pub with_known : list_any (same_cell c) cells ≡ true → with_cell cells c ≡ cells
  with_known e = ap (λ (b : Bool). if b then cells else cells ++ c ∷ []) e

  pub with_new : list_any (same_cell c) cells ≡ false → with_cell cells c ≡ cells ++ c ∷ []
  with_new e = ap (λ (b : Bool). if b then cells else cells ++ c ∷ []) e

  -- no cell is added if c has a place
  pub put_known : (place_in cells c ≡ length cells → ⊥) → cells ≡ with_cell cells c
  put_known h = elim (decided (list_any (same_cell c) cells)) [
    | inl e ↦ sym (with_known e)
    | inr e ↦ absurd (h (place_none cells c e))
  ]

  pub put_place : place_in (with_cell cells c) c ≡ place_in cells c
  put_place = elim (decided (list_any (same_cell c) cells)) [
    | inl e ↦ ap (λ (l : List Cell). place_in l c) (with_known e)
    | inr e ↦
        let end = place_none cells c e in
        ap (λ (l : List Cell). place_in l c) (with_new e) ∙ position_or_len_push (same_cell c) cells c ∙ grind (arith, nat_tests, end, same_itself c)
  ]

  pub put_length : length (with_cell cells c) ≡ max (length cells) (place_in cells c + 1)
  put_length = elim (decided (list_any (same_cell c) cells)) [
    | inl e ↦ let lt = place_some cells c e in ap length (with_known e) ∙ omega (arith, lt)
    | inr e ↦ let end = place_none cells c e in let n = length-append cells (c ∷ []) in ap length (with_new e) ∙ omega (arith, end, n)
  ]

  -- the place of each cell is unchanged, or is past the old cells both before and after
  pub put_other : (x : Cell) → (place_in (with_cell cells c) x ≡ place_in cells x) ⊎ ((length cells ≤ place_in (with_cell cells c) x) × (length cells ≤ place_in cells x))
  put_other x = elim (decided (list_any (same_cell c) cells)) [
    | inl e ↦ inl (ap (λ (l : List Cell). place_in l x) (with_known e))
    | inr e ↦
        let p = ap (λ (l : List Cell). place_in l x) (with_new e) ∙ position_or_len_push (same_cell x) cells c in
        elim (eqb_tells (place_in cells x) (length cells)) [
          | inl t ↦ let r = p ∙ ap (λ (b : Bool). cond b (length cells + cond (same_cell x c) 0 1) (place_in cells x)) t.0 in inr (omega (arith, r), omega (arith, t.1))
          | inr t ↦ inl (p ∙ ap (λ (b : Bool). cond b (length cells + cond (same_cell x c) 0 1) (place_in cells x)) t.0)
        ]
  ]

  pub put_distinct : IsDistinct same_cell cells → place_in cells c ≡ length cells → IsDistinct same_cell (cells ++ c ∷ [])
  put_distinct distinct h = IsDistinct-push same_laws cells c distinct (place_absent cells c h)
