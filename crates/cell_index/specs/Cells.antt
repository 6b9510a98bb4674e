-- Cells in the order in which they were added: the place of a cell is its number in that order.
use Rattle.std.specs.Prelude.{ℕ, List, [], ◌∷◌, ◌++◌, if◌then◌else◌}
use Rattle.std.specs.List.{list_any, position_or_len}
use Rattle.teb_rules.specs.declared.names.Cell.{Cell}
use Rattle.teb_rules.specs.names.Cells.{same_cell}

-- the cells, each once, and for how many more there is room
pub record Shown : Type 0 where
  pub cells : List Cell
  pub spare : ℕ

-- the place of x among the cells; if it has none, their number
abbrev pub place_in : List Cell → Cell → ℕ
place_in cells x = position_or_len (same_cell x) cells

-- the cells after x is added
abbrev pub with_cell : List Cell → Cell → List Cell
with_cell cells x = if list_any (same_cell x) cells then cells else cells ++ x ∷ []

-- lists by the places of their cells, with one for x if it had none
abbrev pub with_place : {V : Type 0} → List Cell → Cell → List (List V) → List (List V)
with_place cells x lists = if list_any (same_cell x) cells then lists else lists ++ [] ∷ []
