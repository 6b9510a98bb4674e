-- Ascending rows, some of which are replaced.
use Rattle.std.proofs.Common.{◌≡◌, Bool, true, false, cond, ◌||◌, List, [], ◌∷◌, ◌++◌, Option, Some, None, ℤ, refl, sym, ap, subst, ◌∙◌}
use Rattle.std.specs.List.{list_all, AllByRecursion}
use Rattle.std.specs.List.Sorted.{IsStrictlySortedBy}
use Rattle.std.specs.Ordering.{is_eq, is_lt, ordering_reverse}
use Rattle.std.specs.declared.cmp.Ordering.{Ordering}
use Rattle.std.specs.declared.cmp.Ordering.TheVariants.{Less, Equal, Greater}
use Rattle.std.proofs.lemmas.Bool.{and_parts, and_from}
use Rattle.teb_rules.specs.declared.names.Cell.{Cell}
use Rattle.teb_rules.specs.names.Cells.{same_cell, cell_cmp, is_before}
use Rattle.teb_rules.specs.names.Rows.{row_of, is_ascending, IsAscending}
use Rattle.teb_rules.proofs.lemmas.names.CellOrder.{cell_cmp_total, same_cell-cell_cmp, before_less}
use Rattle.teb_rules.proofs.lemmas.names.SameCells.{same_cell-true}
use Rattle.serial_order.specs.Seen.{is_among}
use Rattle.serial_order.specs.Tables.{rows_before, rows_behind, row_before, merged_rows}

abbrev Row : Type 0
Row = Cell × ℤ

-- all rows are after x
abbrev Above : Cell → List Row → Type 0
Above x rs = AllByRecursion (λ (r : Row). cell_cmp x r.0 ≡ Less) rs

-- all rows are before x
abbrev Below : Cell → List Row → Type 0
Below x rs = AllByRecursion (λ (r : Row). cell_cmp r.0 x ≡ Less) rs

abbrev Rise : List Row → Type 0
Rise [] = Unit {0}
Rise (r ∷ rs) = Above r.0 rs × Rise rs

-- ascending rows, stated by the order of cells
above : (x : Cell) (rs : List Row) → list_all (λ (s : Row). is_before x s.0) rs ≡ true → Above x rs
above x [] h = tt
above x (r ∷ rs) h = let p = and_parts _ _ h in (before_less x r.0 p.0, above x rs p.1)

rise : (rs : List Row) → IsAscending rs → Rise rs
rise [] h = tt
rise (r ∷ rs) h = let p = and_parts _ _ h in (above r.0 rs p.0, rise rs p.1)

all_before : (x : Cell) (rs : List Row) → Above x rs → list_all (λ (s : Row). is_before x s.0) rs ≡ true
all_before x [] h = refl
all_before x (r ∷ rs) h = and_from (is_before x r.0) (list_all (λ (s : Row). is_before x s.0) rs) (ap is_lt h.0) (all_before x rs h.1)

ascends : (rs : List Row) → Rise rs → IsAscending rs
ascends [] h = refl
ascends (r ∷ rs) h = and_from (list_all (λ (s : Row). is_before r.0 s.0) rs) (is_ascending rs) (all_before r.0 rs h.0) (ascends rs h.1)

above_further : (x y : Cell) (rs : List Row) → cell_cmp x y ≡ Less → Above y rs → Above x rs
above_further x y [] l h = tt
above_further x y (r ∷ rs) l h = (cell_cmp_total.trans x y r.0 l h.0, above_further x y rs l h.1)

below_further : (x y : Cell) (rs : List Row) → cell_cmp x y ≡ Less → Below x rs → Below y rs
below_further x y [] l h = tt
below_further x y (r ∷ rs) l h = (cell_cmp_total.trans r.0 x y h.0 l, below_further x y rs l h.1)

above_append : (x : Cell) (fs bs : List Row) → Above x fs → Above x bs → Above x (fs ++ bs)
above_append x [] bs a b = b
above_append x (r ∷ fs) bs a b = (a.0, above_append x fs bs a.1 b)

-- two ascending lists in sequence ascend, if the first is before x and every cell before x is before the second
rise_append : (x : Cell) (fs bs : List Row) → Rise fs → Rise bs → Below x fs → ((y : Cell) → cell_cmp y x ≡ Less → Above y bs) → Rise (fs ++ bs)
rise_append x [] bs a b low high = b
rise_append x (r ∷ fs) bs a b low high = (above_append r.0 fs bs a.0 (high r.0 low.0), rise_append x fs bs a.1 b low.1 high)

-- the rows before and after a cell
greater_less : (x y : Cell) → cell_cmp x y ≡ Greater → cell_cmp y x ≡ Less
greater_less x y h = cell_cmp_total.antisymm y x ∙ ap ordering_reverse h

below_before : (x : Cell) (rs : List Row) → Below x (rows_before x rs)
below_before x [] = tt
below_before x (r ∷ rs) = elim (cell_cmp r.0 x) as (λ o. cell_cmp r.0 x ≡ o → Below x (elim o [ Less ↦ r ∷ rows_before x rs | Equal ↦ [] | Greater ↦ [] ])) [
  | Less ↦ λ e. (e, below_before x rs)
  | Equal ↦ λ e. tt
  | Greater ↦ λ e. tt
] refl

above_before : (y x : Cell) (rs : List Row) → Above y rs → Above y (rows_before x rs)
above_before y x [] h = tt
above_before y x (r ∷ rs) h = elim (cell_cmp r.0 x) as (λ o. Above y (elim o [ Less ↦ r ∷ rows_before x rs | Equal ↦ [] | Greater ↦ [] ])) [
  | Less ↦ (h.0, above_before y x rs h.1)
  | Equal ↦ tt
  | Greater ↦ tt
]

above_behind : (y x : Cell) (rs : List Row) → Above y rs → Above y (rows_behind x rs)
above_behind y x [] h = tt
above_behind y x (r ∷ rs) h = elim (cell_cmp r.0 x) as (λ o. Above y (elim o [ Less ↦ rows_behind x rs | Equal ↦ rs | Greater ↦ r ∷ rs ])) [
  | Less ↦ above_behind y x rs h.1
  | Equal ↦ h.1
  | Greater ↦ h
]

rise_before : (x : Cell) (rs : List Row) → Rise rs → Rise (rows_before x rs)
rise_before x [] h = tt
rise_before x (r ∷ rs) h = elim (cell_cmp r.0 x) as (λ o. Rise (elim o [ Less ↦ r ∷ rows_before x rs | Equal ↦ [] | Greater ↦ [] ])) [
  | Less ↦ (above_before r.0 x rs h.0, rise_before x rs h.1)
  | Equal ↦ tt
  | Greater ↦ tt
]

rise_behind : (x : Cell) (rs : List Row) → Rise rs → Rise (rows_behind x rs)
rise_behind x [] h = tt
rise_behind x (r ∷ rs) h = elim (cell_cmp r.0 x) as (λ o. Rise (elim o [ Less ↦ rows_behind x rs | Equal ↦ rs | Greater ↦ r ∷ rs ])) [
  | Less ↦ rise_behind x rs h.1
  | Equal ↦ h.1
  | Greater ↦ h
]

above_tied : (x y : Cell) (rs : List Row) → cell_cmp y x ≡ Equal → Above y rs → Above x rs
above_tied x y [] e h = tt
above_tied x y (r ∷ rs) e h = (sym (cell_cmp_total.congr y x r.0 e) ∙ h.0, above_tied x y rs e h.1)

behind_above : (x : Cell) (rs : List Row) → Rise rs → Above x (rows_behind x rs)
behind_above x [] h = tt
behind_above x (r ∷ rs) h = elim (cell_cmp r.0 x) as (λ o. cell_cmp r.0 x ≡ o → Above x (elim o [ Less ↦ rows_behind x rs | Equal ↦ rs | Greater ↦ r ∷ rs ])) [
  | Less ↦ λ e. behind_above x rs h.1
  | Equal ↦ λ e. above_tied x r.0 rs e h.0
  | Greater ↦ λ e. (greater_less r.0 x e, above_further x r.0 rs (greater_less r.0 x e) h.0)
] refl

-- the first value, or else the second
or_else : Option ℤ → Option ℤ → Option ℤ
or_else None o = o
or_else (Some v) o = Some v

other_cell : (x y : Cell) (o : Ordering) → cell_cmp x y ≡ o → is_eq o ≡ false → same_cell x y ≡ false
other_cell x y o e f = same_cell-cell_cmp x y ∙ ap is_eq e ∙ f

none_above : (x : Cell) (rs : List Row) → Above x rs → row_of rs x ≡ None
none_above x [] h = refl
none_above x (r ∷ rs) h = rw (other_cell r.0 x Greater (cell_cmp_total.antisymm r.0 x ∙ ap ordering_reverse h.0) refl) (none_above x rs h.1)

none_below : (x : Cell) (rs : List Row) → Below x rs → row_of rs x ≡ None
none_below x [] h = refl
none_below x (r ∷ rs) h = rw (other_cell r.0 x Less h.0 refl) (none_below x rs h.1)

row_of_append : (fs bs : List Row) (y : Cell) → row_of (fs ++ bs) y ≡ or_else (row_of fs y) (row_of bs y)
unfolding or_else
row_of_append [] bs y = refl
row_of_append (r ∷ fs) bs y = elim (same_cell r.0 y) as (λ b. cond b (Some r.1) (row_of (fs ++ bs) y) ≡ or_else (cond b (Some r.1) (row_of fs y)) (row_of bs y)) [
  | true ↦ refl
  | false ↦ row_of_append fs bs y
]

-- the row of a cell other than x is before x or after it
row_split : (x y : Cell) (rs : List Row) → same_cell x y ≡ false → row_of rs y ≡ or_else (row_of (rows_before x rs) y) (row_of (rows_behind x rs) y)
unfolding or_else
row_split x y [] n = refl
row_split x y (r ∷ rs) n = elim (cell_cmp r.0 x) as (λ o. cell_cmp r.0 x ≡ o
    → row_of (r ∷ rs) y ≡ or_else (row_of (elim o [ Less ↦ r ∷ rows_before x rs | Equal ↦ [] | Greater ↦ [] ]) y) (row_of (elim o [ Less ↦ rows_behind x rs | Equal ↦ rs | Greater ↦ r ∷ rs ]) y)) [
      | Less ↦ λ e. first (same_cell r.0 y) (row_split x y rs n)
      | Equal ↦ λ e. ap (λ (b : Bool). cond b (Some r.1) (row_of rs y)) (ap (λ (z : Cell). same_cell z y) (same_cell-true r.0 x (same_cell-cell_cmp r.0 x ∙ ap is_eq e)) ∙ n)
      | Greater ↦ λ e. refl
    ] refl
  where
    first : (b : Bool) → row_of rs y ≡ or_else (row_of (rows_before x rs) y) (row_of (rows_behind x rs) y)
        → cond b (Some r.1) (row_of rs y) ≡ or_else (cond b (Some r.1) (row_of (rows_before x rs) y)) (row_of (rows_behind x rs) y)
    first true m = refl
    first false m = m

among_above : (x y : Cell) (xs : List Cell) → AllByRecursion (λ (z : Cell). cell_cmp x z ≡ Less) xs → is_among y xs ≡ true → cell_cmp x y ≡ Less
among_above x y [] h a = absurd (cc)
among_above x y (z ∷ xs) h a = go (same_cell z y) refl (among_above x y xs h.1) a
  where
    go : (b : Bool) → same_cell z y ≡ b → (is_among y xs ≡ true → cell_cmp x y ≡ Less) → (b || is_among y xs) ≡ true → cell_cmp x y ≡ Less
    go true s behind p = subst (λ (k : Cell). cell_cmp x k ≡ Less) (same_cell-true z y s) h.0
    go false s behind p = behind p

module _ (left : Cell → Option ℤ) where
  above_merged : (y : Cell) (rs : List Row) (xs : List Cell) → Above y rs → AllByRecursion (λ (z : Cell). cell_cmp y z ≡ Less) xs → Above y (merged_rows left rs xs)
  above_merged y rs [] h a = h
  above_merged y rs (x ∷ xs) h a = above_append y (rows_before x rs) (row_before x (left x) (merged_rows left (rows_behind x rs) xs)) (above_before y x rs h)
      (first (left x) (above_merged y (rows_behind x rs) xs (above_behind y x rs h) a.1))
    where
      first : (o : Option ℤ) → Above y (merged_rows left (rows_behind x rs) xs) → Above y (row_before x o (merged_rows left (rows_behind x rs) xs))
      first None m = m
      first (Some v) m = (a.0, m)

  rise_merged : (rs : List Row) (xs : List Cell) → Rise rs → IsStrictlySortedBy cell_cmp xs → Rise (merged_rows left rs xs)
  unfolding IsStrictlySortedBy
  rise_merged rs [] h s = h
  rise_merged rs (x ∷ xs) h s =
      let high = above_merged x (rows_behind x rs) xs (behind_above x rs h) s.0 in
      let low = rise_merged (rows_behind x rs) xs (rise_behind x rs h) s.1 in
      rise_append x (rows_before x rs) (row_before x (left x) (merged_rows left (rows_behind x rs) xs)) (rise_before x rs h) (first (left x) high low) (below_before x rs)
      (λ y l. second (left x) high y l)
    where
      first : (o : Option ℤ) → Above x (merged_rows left (rows_behind x rs) xs) → Rise (merged_rows left (rows_behind x rs) xs) → Rise (row_before x o (merged_rows left (rows_behind x rs) xs))
      first None m l = l
      first (Some v) m l = (m, l)

      second : (o : Option ℤ) → Above x (merged_rows left (rows_behind x rs) xs) → (y : Cell) → cell_cmp y x ≡ Less → Above y (row_before x o (merged_rows left (rows_behind x rs) xs))
      second None m y l = above_further y x (merged_rows left (rows_behind x rs) xs) l m
      second (Some v) m y l = (l, above_further y x (merged_rows left (rows_behind x rs) xs) l m)

  pub merged_ascend : (rs : List Row) (xs : List Cell) → IsAscending rs → IsStrictlySortedBy cell_cmp xs → IsAscending (merged_rows left rs xs)
  merged_ascend rs xs h s = ascends (merged_rows left rs xs) (rise_merged rs xs (rise rs h) s)

  either_none : (b : Bool) (o : Option ℤ) → o ≡ None → cond b o None ≡ o
  either_none true o e = refl
  either_none false o e = sym e

  merged_value : (rs : List Row) (xs : List Cell) (y : Cell) → Rise rs → IsStrictlySortedBy cell_cmp xs → row_of (merged_rows left rs xs) y ≡ cond (is_among y xs) (left y) (row_of rs y)
  unfolding IsStrictlySortedBy or_else
  merged_value rs [] y h s = refl
  merged_value rs (x ∷ xs) y h s =
      row_of_append (rows_before x rs) (row_before x (left x) (merged_rows left (rows_behind x rs) xs)) y
      ∙ go (same_cell x y) refl (merged_value (rows_behind x rs) xs y (rise_behind x rs h) s.1)
    where
      this : (o : Option ℤ) → left x ≡ o → same_cell x y ≡ true → row_of (merged_rows left (rows_behind x rs) xs) y ≡ cond (is_among y xs) (left y) None
          → row_of (row_before x o (merged_rows left (rows_behind x rs) xs)) y ≡ left y
      this (Some v) e t m = ap (λ (b : Bool). cond b (Some v) (row_of (merged_rows left (rows_behind x rs) xs) y)) t ∙ sym e ∙ ap left (same_cell-true x y t)
      this None e t m = m ∙ either_none (is_among y xs) (left y) (sym (ap left (same_cell-true x y t)) ∙ e)

      that : (o : Option ℤ) → same_cell x y ≡ false → row_of (row_before x o (merged_rows left (rows_behind x rs) xs)) y ≡ row_of (merged_rows left (rows_behind x rs) xs) y
      that (Some v) f = ap (λ (b : Bool). cond b (Some v) (row_of (merged_rows left (rows_behind x rs) xs) y)) f
      that None f = refl

      others : (a : Bool) → is_among y xs ≡ a → same_cell x y ≡ false → or_else (row_of (rows_before x rs) y) (cond a (left y) (row_of (rows_behind x rs) y)) ≡ cond a (left y) (row_of rs y)
      others true a f = ap (λ (o : Option ℤ). or_else o (left y)) (none_below y (rows_before x rs) (below_further x y (rows_before x rs) (among_above x y xs s.0 a) (below_before x rs)))
      others false a f = sym (row_split x y rs f)

      go : (b : Bool) → same_cell x y ≡ b → row_of (merged_rows left (rows_behind x rs) xs) y ≡ cond (is_among y xs) (left y) (row_of (rows_behind x rs) y)
          → or_else (row_of (rows_before x rs) y) (row_of (row_before x (left x) (merged_rows left (rows_behind x rs) xs)) y) ≡ cond (b || is_among y xs) (left y) (row_of rs y)
      go true t m =
          let none = subst (λ (z : Cell). row_of (rows_before x rs) z ≡ None) (same_cell-true x y t) (none_below x (rows_before x rs) (below_before x rs)) in
          let behind = subst (λ (z : Cell). row_of (rows_behind x rs) z ≡ None) (same_cell-true x y t) (none_above x (rows_behind x rs) (behind_above x rs h)) in
          ap (λ (o : Option ℤ). or_else o (row_of (row_before x (left x) (merged_rows left (rows_behind x rs) xs)) y)) none
          ∙ this (left x) refl t (m ∙ ap (λ (o : Option ℤ). cond (is_among y xs) (left y) o) behind)
      go false f m = ap (or_else (row_of (rows_before x rs) y)) (that (left x) f ∙ m) ∙ others (is_among y xs) refl f

  -- the merged rows give what is left, if each cell that is not listed has its starting row
  pub merged_left : (rs : List Row) (xs : List Cell) (y : Cell) → IsAscending rs → IsStrictlySortedBy cell_cmp xs → (is_among y xs ≡ false → left y ≡ row_of rs y)
      → row_of (merged_rows left rs xs) y ≡ left y
  merged_left rs xs y h s others = merged_value rs xs y (rise rs h) s ∙ go (is_among y xs) refl
    where
      go : (b : Bool) → is_among y xs ≡ b → cond b (left y) (row_of rs y) ≡ left y
      go true e = refl
      go false e = sym (others e)
