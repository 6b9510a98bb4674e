-- Cells that were seen.
use Rattle.std.specs.Prelude.{ℕ, zero, suc, ◌+◌, ◌*◌, ◌/◌, ◌%◌, ◌<◌, ◌≤◌, false, ◌&&◌, ◌||◌, Bool, cond, ltb, List, [], ◌∷◌, length, get_or, IsTrue, IsFalse}
use Rattle.std.specs.List.{list_any}
use Rattle.std.specs.List.Sorted.{IsStrictlySortedBy}
use Rattle.teb_rules.specs.declared.names.Cell.{Cell}
use Rattle.teb_rules.specs.names.Cells.{same_cell, cell_cmp}
use Rattle.serial_order.specs.declared.seen_cells.SeenCells.{SeenCells}

-- x is one of these cells
abbrev pub is_among : Cell → List Cell → Bool
is_among x xs = list_any (λ y. same_cell y x) xs

-- the place of the mark of a cell, if `width` keys of each table have one
abbrev pub place_of : ℕ → Cell → ℕ
place_of width x = x.table.0 * width + x.key

-- the cell whose mark is at a place
abbrev pub cell_at : ℕ → ℕ → Cell
cell_at width i = record { table = record { 0 = i / width }; key = i % width }

-- the cells that are marked at n places from i on
abbrev pub marked_cells : ℕ → List Bool → ℕ → ℕ → List Cell
marked_cells width marks i zero = []
marked_cells width marks i (suc n) = let behind = marked_cells width marks (suc i) n in cond (get_or marks i false) (cell_at width i ∷ behind) behind

-- the cell has a mark, and it is set
abbrev pub is_marked : SeenCells → Cell → Bool
is_marked s x = ltb x.key s.width && get_or s.marks.items (place_of s.width x) false

-- the cell was added
abbrev pub has : SeenCells → Cell → Bool
has s x = is_marked s x || is_among x s.others.items

-- each place is of a cell, and no mark from the end on is set
pub record IsSound (s : SeenCells) : Type 0 where
  pub wide : 0 < s.width
  pub few : length s.marks.items ≤ 256 * s.width
  pub within : s.end ≤ length s.marks.items
  pub behind : (i : ℕ) → s.end ≤ i → IsFalse (get_or s.marks.items i false)

-- these cells were added, and none is gone
pub record AddsAll (old new : SeenCells) (xs : List Cell) : Type 0 where
  pub sound : IsSound new
  pub all : (x : Cell) → IsTrue (has old x || is_among x xs) → IsTrue (has new x)

-- the cells ascend, and each that was added is one of them
pub record AreSeen (s : SeenCells) (xs : List Cell) : Type 0 where
  pub ascending : IsStrictlySortedBy cell_cmp xs
  pub all : (x : Cell) → IsTrue (has s x) → IsTrue (is_among x xs)
