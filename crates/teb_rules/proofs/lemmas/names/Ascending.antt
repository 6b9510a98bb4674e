-- Rows that ascend by cell: what a search finds in them, and how one more row changes them.
use Rattle.std.proofs.Common.{◌≡◌, ℕ, zero, suc, ◌<◌, ◌≤◌, List, [], ◌∷◌, length, get_or, map, Bool, true, false, cond, ◌&&◌, Option, Some, None, ℤ, refl, sym, ap, ◌∙◌, add-one, arith}
use Rattle.std.specs.Prelude.{insert, IsSome, is_some, Result, Ok, Err, IfOk, IfErr}
use Rattle.std.specs.List.{list_all, AllByRecursion}
use Rattle.std.specs.List.Sorted.{IsStrictlySortedBy, IsPartitionPoint, IsNonDecreasingBy, IsSearchInRange, IsBinarySearchResult}
use Rattle.std.specs.Ordering.{is_eq, is_lt, ordering_reverse, ordering_index}
use Rattle.std.proofs.lemmas.Cmp.{tied_itself}
use Rattle.std.proofs.lemmas.List.Sorted.{searchable_from_sorted}
use Rattle.std.specs.declared.cmp.Ordering.TheVariants.{Less, Equal, Greater}
use Rattle.teb_rules.specs.names.Cells.{same_cell, cell_cmp, is_before}
use Rattle.teb_rules.specs.names.Rows.{row_of, is_ascending, IsAscending, insert_row}
use Rattle.teb_rules.specs.declared.names.Cell.{Cell}
use Rattle.teb_rules.proofs.lemmas.names.CellOrder.{cell_cmp_total, same_cell-cell_cmp, before_tied, before_less}

abbrev Row : Type 0
Row = Cell × ℤ

both : (a b : Bool) → (a && b) ≡ true → (a ≡ true) × (b ≡ true)
both true b h = (refl, h)
both false b h = absurd (cc)

joined : (a b : Bool) → a ≡ true → b ≡ true → (a && b) ≡ true
joined a b p q = rw (p, q)

passes_at : (p : Row → Bool) (rs : List Row) (i : ℕ) (d : Row) → list_all p rs ≡ true → i < length rs → p (get_or rs i d) ≡ true
passes_at p [] i d h low = absurd (omega arith)
passes_at p (r ∷ rs) zero d h low = (both (p r) (list_all p rs) h).0
passes_at p (r ∷ rs) (suc i) d h low = passes_at p rs i d (both (p r) (list_all p rs) h).1 (omega arith)

-- a row whose cell ties with x is the row of x
pub row_of_tied : (rs : List Row) (i : ℕ) (d : Row) (x : Cell) → IsAscending rs → i < length rs → cell_cmp (get_or rs i d).0 x ≡ Equal → row_of rs x ≡ Some (get_or rs i d).1
row_of_tied [] i d x up low tie = absurd (omega arith)
row_of_tied (r ∷ rs) zero d x up low tie = rw (same_cell-cell_cmp r.0 x, tie)
row_of_tied (r ∷ rs) (suc i) d x up low tie =
    let parts = both (list_all (λ (s : Row). is_before r.0 s.0) rs) (is_ascending rs) up in
    let within : i < length rs = omega arith in
    let s = (get_or rs i d).0 in
    let less : cell_cmp r.0 x ≡ Less = before_tied r.0 s x tie (before_less r.0 s (passes_at (λ (s : Row). is_before r.0 s.0) rs i d parts.0 within)) in
    rw (same_cell-cell_cmp r.0 x, less) (row_of_tied rs i d x parts.1 within tie)

-- the cells of the rows below i are before x, and the others are after it
abbrev Parts : List Row → Cell → ℕ → Type 0
Parts rs x i = IsPartitionPoint (λ (r : Row). cell_cmp r.0 x ≡ Less) (λ (r : Row). cell_cmp r.0 x ≡ Greater) rs i

rest : (r : Row) (rs : List Row) (x : Cell) (i : ℕ) → Parts (r ∷ rs) x (suc i) → Parts rs x i
rest r rs x i parts = (λ k d low high. parts.0 (suc k) d (omega arith) (omega arith), λ k d low high. parts.1 (suc k) d (omega arith) (omega arith))

behind : (r : Row) (rs : List Row) (x : Cell) → Parts (r ∷ rs) x 0 → Parts rs x 0
behind r rs x parts = (λ k d low high. absurd (omega arith), λ k d low high. parts.1 (suc k) d (omega arith) (omega arith))

pub row_of_parted : (rs : List Row) (x : Cell) (i : ℕ) → Parts rs x i → row_of rs x ≡ None
row_of_parted [] x i parts = refl
row_of_parted (r ∷ rs) x zero parts =
    let greater : cell_cmp r.0 x ≡ Greater = parts.1 0 r (omega arith) (omega arith) in
    rw (same_cell-cell_cmp r.0 x, greater) (row_of_parted rs x 0 (behind r rs x parts))
row_of_parted (r ∷ rs) x (suc i) parts =
    let less : cell_cmp r.0 x ≡ Less = parts.0 0 r (omega arith) (omega arith) in
    rw (same_cell-cell_cmp r.0 x, less) (row_of_parted rs x i (rest r rs x i parts))

pub insert-insert_row : (rs : List Row) (x : Cell) (v : ℤ) (i : ℕ) → Parts rs x i → i ≤ length rs → insert rs i (x, v) ≡ insert_row rs x v
insert-insert_row [] x v zero parts low = refl
insert-insert_row [] x v (suc i) parts low = absurd (omega arith)
insert-insert_row (r ∷ rs) x v zero parts low =
    let greater : cell_cmp r.0 x ≡ Greater = parts.1 0 r (omega arith) (omega arith) in
    let less : cell_cmp x r.0 ≡ Less = cell_cmp_total.antisymm x r.0 ∙ ap ordering_reverse greater in
    rw less
insert-insert_row (r ∷ rs) x v (suc i) parts low =
    let less : cell_cmp r.0 x ≡ Less = parts.0 0 r (omega arith) (omega arith) in
    let greater : cell_cmp x r.0 ≡ Greater = cell_cmp_total.antisymm x r.0 ∙ ap ordering_reverse less in
    rw greater (ap (λ (l : List Row). r ∷ l) (insert-insert_row rs x v i (rest r rs x i parts) (omega arith)))

-- each cell is before the cell of the next row
next_less : (rs : List Row) (k : ℕ) (d : Row) → IsAscending rs → suc k < length rs → cell_cmp (get_or rs k d).0 (get_or rs (suc k) d).0 ≡ Less
next_less [] k d up low = absurd (omega arith)
next_less (r ∷ []) k d up low = absurd (omega arith)
next_less (r ∷ s ∷ rs) zero d up low =
    let parts = both (list_all (λ (q : Row). is_before r.0 q.0) (s ∷ rs)) (is_ascending (s ∷ rs)) up in
    before_less r.0 s.0 (both (is_before r.0 s.0) (list_all (λ (q : Row). is_before r.0 q.0) rs) parts.0).0
next_less (r ∷ s ∷ rs) (suc k) d up low =
    next_less (s ∷ rs) k d (both (list_all (λ (q : Row). is_before r.0 q.0) (s ∷ rs)) (is_ascending (s ∷ rs)) up).1 (omega arith)

-- the order that a binary search requires of the rows
pub searchable : (rs : List Row) (x : Cell) → IsAscending rs → IsNonDecreasingBy (λ (r : Row). ordering_index (cell_cmp r.0 x)) rs
searchable rs x up = searchable_from_sorted cell_cmp_total (λ (r : Row). r.0) rs x (λ k d low high.
    let less = next_less rs k d up (omega arith) in
    rw add-one (ap is_lt (cell_cmp_total.antisymm (get_or rs (suc k) d).0 (get_or rs k d).0 ∙ ap ordering_reverse less)))

some_there : (rs : List Row) (i : ℕ) (x : Cell) → i < length rs → ((d : Row) → row_of rs x ≡ Some (get_or rs i d).1) → IsSome (row_of rs x)
some_there [] i x low is = absurd (omega arith)
some_there (r ∷ rs) i x low is = ap is_some (is r)

-- what a search says of a cell that it found
pub found_there : (rs : List Row) (x : Cell) (r : Result ℕ ℕ) → IsAscending rs → IsSearchInRange r (length rs) → IsBinarySearchResult (λ (s : Row). cell_cmp s.0 x) rs r
    → IfOk r (λ i. (i < length rs) × IsSome (row_of rs x) × ((d : Row) → row_of rs x ≡ Some (get_or rs i d).1))
found_there rs x (Ok i) up low hit =
    let is : (d : Row) → row_of rs x ≡ Some (get_or rs i d).1 = λ d. row_of_tied rs i d x up low (hit d) in
    (low, some_there rs i x low is, is)
found_there rs x (Err i) up low parts = tt

-- and of one that it did not find
pub found_absent : (rs : List Row) (x : Cell) (r : Result ℕ ℕ) → IsAscending rs → IsSearchInRange r (length rs) → IsBinarySearchResult (λ (s : Row). cell_cmp s.0 x) rs r
    → IfErr r (λ i. (i ≤ length rs) × (row_of rs x ≡ None) × ((v : ℤ) → insert rs i (x, v) ≡ insert_row rs x v))
found_absent rs x (Ok i) up low hit = tt
found_absent rs x (Err i) up low parted =
    let parts = parted (searchable rs x up) in
    (low, row_of_parted rs x i parts, λ v. insert-insert_row rs x v i parts low)

passes_inserted : (p : Row → Bool) (rs : List Row) (x : Cell) (v : ℤ) → p (x, v) ≡ true → list_all p rs ≡ true → list_all p (insert_row rs x v) ≡ true
passes_inserted p [] x v h all = joined (p (x, v)) true h refl
passes_inserted p (r ∷ rs) x v h all =
    let parts = both (p r) (list_all p rs) all in
    elim (is_before x r.0) as (λ b. list_all p (cond b ((x, v) ∷ r ∷ rs) (r ∷ insert_row rs x v)) ≡ true) [
      | true ↦ joined (p (x, v)) (list_all p (r ∷ rs)) h all
      | false ↦ joined (p r) (list_all p (insert_row rs x v)) parts.0 (passes_inserted p rs x v h parts.1)
    ]

-- rows that are after y are after each cell before y
before_all : (rs : List Row) (x y : Cell) → cell_cmp x y ≡ Less → list_all (λ (r : Row). is_before y r.0) rs ≡ true → list_all (λ (r : Row). is_before x r.0) rs ≡ true
before_all [] x y less all = refl
before_all (r ∷ rs) x y less all =
    let parts = both (is_before y r.0) (list_all (λ (s : Row). is_before y s.0) rs) all in
    joined (is_before x r.0) (list_all (λ (s : Row). is_before x s.0) rs) (ap is_lt (cell_cmp_total.trans x y r.0 less (before_less y r.0 parts.0))) (before_all rs x y less parts.1)

-- if x has no row, the first row is of another cell, and the other rows have none of x
skipped : (r : Row) (rs : List Row) (x : Cell) → row_of (r ∷ rs) x ≡ None → (same_cell r.0 x ≡ false) × (row_of rs x ≡ None)
skipped r rs x none = elim (same_cell r.0 x) as (λ b. cond b (Some r.1) (row_of rs x) ≡ None → (b ≡ false) × (row_of rs x ≡ None)) [ true ↦ λ h. absurd (cc) | false ↦ λ h. (refl, h) ] none

-- a cell that is not the same as x and not after it is before it
less_left : (r x : Cell) → same_cell r x ≡ false → is_before x r ≡ false → cell_cmp r x ≡ Less
less_left r x other later =
    let apart : is_eq (cell_cmp r x) ≡ false = sym (same_cell-cell_cmp r x) ∙ other in
    let back : is_lt (ordering_reverse (cell_cmp r x)) ≡ false = ap is_lt (sym (cell_cmp_total.antisymm x r)) ∙ later in
    elim (cell_cmp r x) as (λ o. is_eq o ≡ false → is_lt (ordering_reverse o) ≡ false → o ≡ Less) [ Less ↦ λ _ _. refl | Equal ↦ λ h _. absurd (cc) | Greater ↦ λ _ h. absurd (cc) ] apart back

pub ascending_after : (rs : List Row) (x : Cell) (v : ℤ) → IsAscending rs → row_of rs x ≡ None → IsAscending (insert_row rs x v)
ascending_after [] x v up none = refl
ascending_after (r ∷ rs) x v up none =
    let parts = both (list_all (λ (s : Row). is_before r.0 s.0) rs) (is_ascending rs) up in
    let without = skipped r rs x none in
    elim (is_before x r.0) as (λ b. is_before x r.0 ≡ b → is_ascending (cond b ((x, v) ∷ r ∷ rs) (r ∷ insert_row rs x v)) ≡ true) [
      | true ↦ λ first. joined (list_all (λ (s : Row). is_before x s.0) (r ∷ rs)) (is_ascending (r ∷ rs))
          (joined (is_before x r.0) (list_all (λ (s : Row). is_before x s.0) rs) first (before_all rs x r.0 (before_less x r.0 first) parts.0)) up
      | false ↦ λ later. joined (list_all (λ (s : Row). is_before r.0 s.0) (insert_row rs x v)) (is_ascending (insert_row rs x v))
          (passes_inserted (λ (s : Row). is_before r.0 s.0) rs x v (ap is_lt (less_left r.0 x without.0 later)) parts.0) (ascending_after rs x v parts.1 without.1)
    ] refl

same_itself : (x : Cell) → same_cell x x ≡ true
same_itself x = same_cell-cell_cmp x x ∙ ap is_eq (tied_itself cell_cmp_total x)

-- the new row is there
pub row_of_new : (rs : List Row) (x : Cell) (v : ℤ) → row_of rs x ≡ None → row_of (insert_row rs x v) x ≡ Some v
row_of_new [] x v none = rw (same_itself x)
row_of_new (r ∷ rs) x v none =
    let without = skipped r rs x none in
    elim (is_before x r.0) as (λ b. row_of (cond b ((x, v) ∷ r ∷ rs) (r ∷ insert_row rs x v)) x ≡ Some v) [
      | true ↦ rw (same_itself x)
      | false ↦ rw (without.0) (row_of_new rs x v without.1)
    ]

-- and no other row is changed
pub row_of_other : (rs : List Row) (x : Cell) (v : ℤ) (y : Cell) → same_cell x y ≡ false → row_of (insert_row rs x v) y ≡ row_of rs y
row_of_other [] x v y other = rw other
row_of_other (r ∷ rs) x v y other =
    elim (is_before x r.0) as (λ b. row_of (cond b ((x, v) ∷ r ∷ rs) (r ∷ insert_row rs x v)) y ≡ row_of (r ∷ rs) y) [
      | true ↦ rw other
      | false ↦ ap (λ (o : Option ℤ). cond (same_cell r.0 y) (Some r.1) o) (row_of_other rs x v y other)
    ]

less_passes : (x : Cell) (rs : List Row) → AllByRecursion (λ y. cell_cmp x y ≡ Less) (map (λ (r : Row). r.0) rs) → list_all (λ (r : Row). is_before x r.0) rs ≡ true
less_passes x [] all = refl
less_passes x (r ∷ rs) all = joined (is_before x r.0) (list_all (λ (s : Row). is_before x s.0) rs) (ap is_lt all.0) (less_passes x rs all.1)

-- rows whose cells are sorted in the sense of std ascend, such as those of an ordered map
pub ascending_from_sorted : (rs : List Row) → IsStrictlySortedBy cell_cmp (map (λ (r : Row). r.0) rs) → IsAscending rs
unfolding IsStrictlySortedBy
ascending_from_sorted [] sorted = refl
ascending_from_sorted (r ∷ rs) sorted =
    joined (list_all (λ (s : Row). is_before r.0 s.0) rs) (is_ascending rs) (less_passes r.0 rs sorted.0) (ascending_from_sorted rs sorted.1)
