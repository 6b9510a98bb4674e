-- The final tables as a list of rows.
use Rattle.std.specs.Prelude.{◌≡◌, ℕ, ℤ, false, List, [], ◌∷◌, ◌++◌, Option, Some, None}
use Rattle.std.specs.List.{list_any}
use Rattle.std.specs.declared.cmp.Ordering.TheVariants.{Less, Equal, Greater}
use Rattle.std.specs.List.Sorted.{IsStrictlySortedBy}
use Rattle.teb_rules.specs.declared.names.Cell.{Cell}
use Rattle.teb_rules.specs.names.Cells.{same_cell, cell_cmp}
use Rattle.teb_rules.specs.names.Rows.{row_of}
use Rattle.teb_rules.specs.declared.history.Event.{Event}
use Rattle.teb_rules.specs.declared.history.Event.TheVariants.{Put}
use Rattle.teb_rules.specs.Setup.{Store}
use Rattle.teb_rules.specs.Serializes.{final_table}
use Rattle.phase_api.specs.declared.facts.Facts.{Facts}
use Rattle.phase_api.specs.FactsView.{setup_of, events_of}

-- the store with this many tables and these starting rows
abbrev pub store_with : Facts → List (Cell × ℤ) → ℕ → Store
store_with f R n = record { setup = setup_of f; tables = n; rows = R }

-- what is left in a cell; the number of tables does not matter
abbrev pub left_in : Facts → List (Cell × ℤ) → Cell → Option ℤ
left_in f R x = final_table (store_with f R 0) (events_of f) x

-- the cells that these events put
abbrev pub cells_put : List Event → List Cell
cells_put [] = []
cells_put (Put t x v ∷ es) = x ∷ cells_put es
cells_put (_ ∷ es) = cells_put es

-- the cells ascend, and in any other its starting row is left
pub record AreCells (left : Cell → Option ℤ) (rows : List (Cell × ℤ)) (xs : List Cell) : Type 0 where
  pub ascending : IsStrictlySortedBy cell_cmp xs
  pub all : (x : Cell) → list_any (λ y. same_cell y x) xs ≡ false → left x ≡ row_of rows x

-- of rows that ascend, those before a cell
abbrev pub rows_before : Cell → List (Cell × ℤ) → List (Cell × ℤ)
rows_before x [] = []
rows_before x (r ∷ rs) = elim (cell_cmp r.0 x) [ Less ↦ r ∷ rows_before x rs | Equal ↦ [] | Greater ↦ [] ]

-- of rows that ascend, those after a cell
abbrev pub rows_behind : Cell → List (Cell × ℤ) → List (Cell × ℤ)
rows_behind x [] = []
rows_behind x (r ∷ rs) = elim (cell_cmp r.0 x) [ Less ↦ rows_behind x rs | Equal ↦ rs | Greater ↦ r ∷ rs ]

-- these rows after that of a cell, if it has a value
abbrev pub row_before : Cell → Option ℤ → List (Cell × ℤ) → List (Cell × ℤ)
row_before x None rows = rows
row_before x (Some v) rows = (x, v) ∷ rows

-- rows that ascend, with what is left in these cells in the place of theirs
abbrev pub merged_rows : (Cell → Option ℤ) → List (Cell × ℤ) → List Cell → List (Cell × ℤ)
merged_rows left rs [] = rs
merged_rows left rs (x ∷ xs) = rows_before x rs ++ row_before x (left x) (merged_rows left (rows_behind x rs) xs)
