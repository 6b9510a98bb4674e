-- Rows of tables, as a list of cells with their values.
use Rattle.std.specs.Prelude.{cond, Bool, true, ◌&&◌, IsTrue, List, [], ◌∷◌, Option, Some, None, ℤ}
use Rattle.std.specs.List.{list_all}
use Rattle.teb_rules.specs.declared.names.Cell.{Cell}
use Rattle.teb_rules.specs.names.Cells.{same_cell, is_before}

-- the value in a cell; None if it has no row
abbrev pub row_of : List (Cell × ℤ) → Cell → Option ℤ
row_of [] x = None
row_of (r ∷ rs) x = let s = row_of rs x in cond (same_cell r.0 x) (Some r.1) s

-- each cell is before the cells of all later rows, so no two are the same
abbrev pub is_ascending : List (Cell × ℤ) → Bool
is_ascending [] = true
is_ascending (r ∷ rs) = list_all (λ s. is_before r.0 s.0) rs && is_ascending rs

abbrev pub IsAscending : List (Cell × ℤ) → Type 0
IsAscending rows = IsTrue (is_ascending rows)

-- the rows and one more, which is inserted before the first row of a later cell
abbrev pub insert_row : List (Cell × ℤ) → Cell → ℤ → List (Cell × ℤ)
insert_row [] x v = (x, v) ∷ []
insert_row (r ∷ rs) x v = let behind = insert_row rs x v in cond (is_before x r.0) ((x, v) ∷ r ∷ rs) (r ∷ behind)
