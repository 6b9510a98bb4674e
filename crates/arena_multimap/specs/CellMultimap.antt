-- Lists by cell: the list of a cell has the number of its place among the cells.
use Rattle.std.specs.Prelude.{◌≡◌, ℕ, suc, ◌≤◌, List, [], ◌∷◌, ◌++◌, length, map}
use Rattle.std.specs.List.{IsDistinct}
use Rattle.teb_rules.specs.declared.names.Cell.{Cell}
use Rattle.teb_rules.specs.names.Cells.{same_cell}
use Rattle.cell_index.specs.Cells.{Shown as Cells}
use Rattle.arena_multimap.specs.declared.arena.Arena.{Arena}
use Rattle.arena_multimap.specs.Arenas.{lists, IsArena, HasRoom}

-- each cell beside each of the values of its list; the first cell has list n
abbrev pub entries_from : {V : Type 0} → (ℕ → List V) → ℕ → List Cell → List (Cell × V)
entries_from f n [] = []
entries_from f n (x ∷ xs) = map (λ v. (x, v)) (f n) ++ entries_from f (suc n) xs

-- cells, each once, and a list for each, with room for n more values
pub record AreListed {V : Type 0} (cells : Cells) (a : Arena V) (n : ℕ) : Type 0 where
  pub unique : IsDistinct same_cell cells.cells
  pub paired : length cells.cells ≡ lists a
  pub sound : IsArena a
  pub cells_room : n ≤ cells.spare
  pub room : HasRoom a n
