-- The readers and writers of each cell: a cell has a place, and the lists of the cell have the number of its place.
use Rattle.std.specs.Prelude.{◌≡◌, ◌≤◌, ◌*◌, ℕ, List, length}
use Rattle.teb_rules.specs.declared.names.Txn.{Txn}
use Rattle.teb_rules.specs.declared.names.Cell.{Cell}
use Rattle.cell_index.specs.Cells.{Shown as Index}
use Rattle.cell_index.specs.Lists.{list_for}
use Rattle.arena_multimap.specs.NumberedLists.{Shown as Numbered}

-- for how many more cells there is room, and in the lists of each kind for how many more beginnings and values
pub record Room : Type 0 where
  pub cells : ℕ
  pub readers : ℕ
  pub writers : ℕ

-- the cells, for each of them in that order its readers, beside the writer read from, and its writers, and the room
pub record Shown : Type 0 where
  pub cells : List Cell
  pub readers : List (List (Txn × Txn))
  pub writers : List (List Txn)
  pub room : Room

-- there is room for n more accesses, each of which may begin the lists of its cell, and puts a value in one of them
pub record HasRoom (r : Room) (n : ℕ) : Type 0 where
  pub cells : n ≤ r.cells
  pub readers : 2 * n ≤ r.readers
  pub writers : 2 * n ≤ r.writers

abbrev pub readers_of : Shown → Cell → List (Txn × Txn)
readers_of s x = list_for s.cells s.readers x

abbrev pub writers_of : Shown → Cell → List Txn
writers_of s x = list_for s.cells s.writers x

abbrev pub shown_of : Index → Numbered (Txn × Txn) → Numbered Txn → Shown
shown_of index readers writers = record {
  cells = index.cells;
  readers = readers.lists;
  writers = writers.lists;
  room = record { cells = index.spare; readers = readers.spare; writers = writers.spare };
}

-- lists for each cell
pub record ArePlaced (cells : List Cell) (rs : List (List (Txn × Txn))) (ws : List (List Txn)) : Type 0 where
  pub readers : length rs ≡ length cells
  pub writers : length ws ≡ length cells
