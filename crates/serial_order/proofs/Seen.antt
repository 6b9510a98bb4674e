-- Cells by the places of their marks.
use Rattle.std.proofs.Common.{ℕ, zero, suc, ◌≡◌, ◌+◌, ◌*◌, ◌/◌, ◌%◌, ◌<◌, ◌≤◌, Bool, true, false, cond, ◌||◌, List, [], ◌∷◌, get_or, refl, sym, ap, subst, ◌∙◌, arith, ltb-true, inl, inr, ◌-◌, ◌++◌}
use Rattle.std.specs.Ordering.{nat_cmp, ordering_then}
use Rattle.std.specs.declared.cmp.Ordering.{Ordering}
use Rattle.std.specs.declared.cmp.Ordering.TheVariants.{Less, Equal}
use Rattle.std.specs.Cmp.{nat_cmp_is}
use Rattle.std.specs.List.{AllByRecursion, dedup, dedup_from}
use Rattle.std.specs.List.Sorted.{IsPermutation, IsSorted, IsStrictlySortedBy}
use Rattle.std.proofs.lemmas.List.Folds.{list_any-append}
use Rattle.std.proofs.lemmas.List.Sorted.{list_any-IsPermutation}
use Rattle.std.proofs.lemmas.List.Kept.{IsStrictlySortedBy-dedup}
use Rattle.std.proofs.Math.Nat.{div-mul-le_self}
use Rattle.std.proofs.lemmas.Nat.{le-div, div-add-mod', div-mul-add, mod-mul-add}
use Rattle.std.proofs.lemmas.Bool.{cases_order, cases_lt, both_ways, and_parts, or_right}
use Rattle.teb_rules.specs.declared.names.Cell.{Cell}
use Rattle.teb_rules.specs.names.Cells.{same_cell, cell_cmp}
use Rattle.teb_rules.proofs.lemmas.names.SameCells.{same_cell-true, same_itself}
use Rattle.teb_rules.proofs.lemmas.names.CellOrder.{cell_cmp_total, same_cell-cell_cmp}
use Rattle.serial_order.specs.declared.seen_cells.SeenCells.{SeenCells}
use Rattle.serial_order.specs.Seen.{is_among, place_of, cell_at, marked_cells, is_marked, IsSound, AreSeen}

-- the cell at the place of x is x
pub cell_of_place : (w : ℕ) (x : Cell) → x.key < w → cell_at w (place_of w x) ≡ x
cell_of_place w x h = path (div-mul-add x.table.0 w x.key h) (mod-mul-add x.table.0 w x.key h)
  where
    path : (place_of w x) / w ≡ x.table.0 → (place_of w x) % w ≡ x.key → cell_at w (place_of w x) ≡ x
    path a b = λ i. record { table = record { 0 = a i }; key = b i }

module _ (w : ℕ) (wide : 0 < w) where
  -- cells ascend with their places
  before : (i j : ℕ) → i < j → cell_cmp (cell_at w i) (cell_at w j) ≡ Less
  before i j h = elim (cases_order (i / w) (j / w)) [
    | inl e ↦ (
        let keys : i % w < j % w = (let a = div-add-mod' i w in let b = div-add-mod' j w in let c = ap (λ (q : ℕ). q * w) e in omega arith) in
        ap (λ (o : Ordering). ordering_then o (nat_cmp (i % w) (j % w))) (sym (nat_cmp_is (i / w) (j / w) Equal e)) ∙ sym (nat_cmp_is (i % w) (j % w) Less keys))
    | inr o ↦ elim o [
      | inl lt ↦ ap (λ (o : Ordering). ordering_then o (nat_cmp (i % w) (j % w))) (sym (nat_cmp_is (i / w) (j / w) Less lt))
      | inr gt ↦ absurd (let a = le-div (i / w) j w wide (let m = div-mul-le_self i w in omega arith) in omega arith)
    ]
  ]

  module _ (marks : List Bool) where
    after : (i j n : ℕ) → i < j → AllByRecursion (λ (y : Cell). cell_cmp (cell_at w i) y ≡ Less) (marked_cells w marks j n)
    after i j zero h = tt
    after i j (suc n) h = go (get_or marks j false) (after i (suc j) n (omega arith))
      where
        go : (b : Bool) → AllByRecursion (λ (y : Cell). cell_cmp (cell_at w i) y ≡ Less) (marked_cells w marks (suc j) n)
            → AllByRecursion (λ (y : Cell). cell_cmp (cell_at w i) y ≡ Less) (cond b (cell_at w j ∷ marked_cells w marks (suc j) n) (marked_cells w marks (suc j) n))
        go true r = (before i j h, r)
        go false r = r

    pub marked_ascend : (i n : ℕ) → IsStrictlySortedBy cell_cmp (marked_cells w marks i n)
    unfolding IsStrictlySortedBy
    marked_ascend i zero = tt
    marked_ascend i (suc n) = go (get_or marks i false) (marked_ascend (suc i) n)
      where
        go : (b : Bool) → IsStrictlySortedBy cell_cmp (marked_cells w marks (suc i) n)
            → IsStrictlySortedBy cell_cmp (cond b (cell_at w i ∷ marked_cells w marks (suc i) n) (marked_cells w marks (suc i) n))
        go true r = (after i (suc i) n (omega arith), r)
        go false r = r

    there : (i n p : ℕ) → i ≤ p → p < i + n → get_or marks p false ≡ true → is_among (cell_at w p) (marked_cells w marks i n) ≡ true
    there i zero p low high m = absurd (omega arith)
    there i (suc n) p low high m = elim (cases_order i p) [
      | inl e ↦ subst (λ (k : ℕ). is_among (cell_at w k) (marked_cells w marks i (suc n)) ≡ true) e (here (get_or marks i false) (subst (λ (k : ℕ). get_or marks k false ≡ true) (sym e) m))
      | inr o ↦ elim o [
        | inl lt ↦ behind (get_or marks i false) (there (suc i) n p (omega arith) (omega arith) m)
        | inr gt ↦ absurd (omega arith)
      ]
    ]
      where
        here : (b : Bool) → b ≡ true → is_among (cell_at w i) (cond b (cell_at w i ∷ marked_cells w marks (suc i) n) (marked_cells w marks (suc i) n)) ≡ true
        here true h = ap (λ (b : Bool). b || is_among (cell_at w i) (marked_cells w marks (suc i) n)) (same_itself (cell_at w i))
        here false h = absurd (cc)

        behind : (b : Bool) → is_among (cell_at w p) (marked_cells w marks (suc i) n) ≡ true
            → is_among (cell_at w p) (cond b (cell_at w i ∷ marked_cells w marks (suc i) n) (marked_cells w marks (suc i) n)) ≡ true
        behind true h = or_right _ _ h
        behind false h = h

-- each marked cell is one of those at the places below the end
pub marked_there : (s : SeenCells) (x : Cell) → IsSound s → is_marked s x ≡ true → is_among x (marked_cells s.width s.marks.items 0 s.end) ≡ true
marked_there s x ok h =
    let p = and_parts _ _ h in
    let low : x.key < s.width = ltb-true _ _ p.0 in
    elim (cases_lt (place_of s.width x) s.end) [
      | inl lt ↦ subst (λ (y : Cell). is_among y (marked_cells s.width s.marks.items 0 s.end) ≡ true) (cell_of_place s.width x low)
          (there s.width ok.wide s.marks.items 0 s.end (place_of s.width x) (omega arith) (omega arith) p.1)
      | inr le ↦ absurd (both_ways _ (ok.behind (place_of s.width x) le) p.1)
    ]

-- one more place
pub more_marked : (w : ℕ) (ms : List Bool) (i e : ℕ) → i < e → get_or ms i false ≡ true → marked_cells w ms i (e - i) ≡ cell_at w i ∷ marked_cells w ms (i + 1) (e - (i + 1))
more_marked w ms i e h m =
    let k : e - i ≡ suc (e - (i + 1)) = omega arith in
    let j : suc i ≡ i + 1 = omega arith in
    ap (marked_cells w ms i) k
    ∙ ap (λ (b : Bool). cond b (cell_at w i ∷ marked_cells w ms (suc i) (e - (i + 1))) (marked_cells w ms (suc i) (e - (i + 1)))) m
    ∙ ap (λ (n : ℕ). cell_at w i ∷ marked_cells w ms n (e - (i + 1))) j

pub more_unmarked : (w : ℕ) (ms : List Bool) (i e : ℕ) → i < e → get_or ms i false ≡ false → marked_cells w ms i (e - i) ≡ marked_cells w ms (i + 1) (e - (i + 1))
more_unmarked w ms i e h m =
    let k : e - i ≡ suc (e - (i + 1)) = omega arith in
    let j : suc i ≡ i + 1 = omega arith in
    ap (marked_cells w ms i) k
    ∙ ap (λ (b : Bool). cond b (cell_at w i ∷ marked_cells w ms (suc i) (e - (i + 1))) (marked_cells w ms (suc i) (e - (i + 1)))) m
    ∙ ap (λ (n : ℕ). marked_cells w ms n (e - (i + 1))) j

-- removing duplicates keeps the same cells
or_twice : (a b : Bool) → (a || b) ≡ (a || (a || b))
or_twice true b = refl
or_twice false b = refl

among_once_from : (x k : Cell) (ys : List Cell) → is_among x (dedup_from same_cell k ys) ≡ is_among x (k ∷ ys)
among_once_from x k [] = refl
among_once_from x k (y ∷ ys) = go (same_cell y k) refl (among_once_from x k ys) (among_once_from x y ys)
  where
    go : (b : Bool) → same_cell y k ≡ b → is_among x (dedup_from same_cell k ys) ≡ is_among x (k ∷ ys) → is_among x (dedup_from same_cell y ys) ≡ is_among x (y ∷ ys)
        → is_among x (cond b (dedup_from same_cell k ys) (k ∷ dedup_from same_cell y ys)) ≡ is_among x (k ∷ y ∷ ys)
    go true s here behind = here ∙ or_twice (same_cell k x) (is_among x ys) ∙ ap (λ (z : Cell). same_cell k x || (same_cell z x || is_among x ys)) (sym (same_cell-true y k s))
    go false s here behind = ap (λ (b : Bool). same_cell k x || b) behind

among_once : (x : Cell) (ys : List Cell) → is_among x (dedup same_cell ys) ≡ is_among x ys
among_once x [] = refl
among_once x (y ∷ ys) = among_once_from x y ys

either_way : {P : Type 0} (a b : Bool) → (a || b) ≡ true → (a ≡ true → P) → (b ≡ true → P) → P
either_way true b h f g = f refl
either_way false b h f g = g h

-- the marked cells alone, if there are no others
pub only_marked : (s : SeenCells) (xs : List Cell) → IsSound s → s.others.items ≡ [] → xs ≡ marked_cells s.width s.marks.items 0 s.end → AreSeen s xs
only_marked s xs ok none e = record {
  ascending = subst (IsStrictlySortedBy cell_cmp) (sym e) (marked_ascend s.width ok.wide s.marks.items 0 s.end);
  all = λ x h. either_way (is_marked s x) (is_among x s.others.items) h
      (λ m. ap (is_among x) e ∙ marked_there s x ok m)
      (λ o. absurd (both_ways (is_among x s.others.items) (ap (is_among x) none) o));
}

-- the marked cells and the others, sorted, without duplicates
pub all_sorted : (s : SeenCells) (ms ps qs : List Cell) → IsSound s → ms ≡ marked_cells s.width s.marks.items 0 s.end → IsPermutation s.others.items ps → IsPermutation (ms ++ ps) qs
    → IsSorted cell_cmp qs
    → AreSeen s (dedup same_cell qs)
all_sorted s ms ps qs ok e others both sorted = record {
  ascending = IsStrictlySortedBy-dedup cell_cmp_total same_cell-cell_cmp qs sorted;
  all = λ x h.
      among_once x qs ∙ sym (list_any-IsPermutation (λ (y : Cell). same_cell y x) (ms ++ ps) qs both) ∙ list_any-append (λ (y : Cell). same_cell y x) ms ps
      ∙ either_way (is_marked s x) (is_among x s.others.items) h
      (λ m. ap (λ (b : Bool). b || is_among x ps) (ap (is_among x) e ∙ marked_there s x ok m))
      (λ o. or_right (is_among x ms) (is_among x ps) (sym (list_any-IsPermutation (λ (y : Cell). same_cell y x) s.others.items ps others) ∙ o));
}
