-- What contracts see of a book, and which history it stands for.
use Rattle.std.specs.Prelude.{◌≡◌, ℕ, zero, suc, ◌+◌, ◌≤◌, List, [], length, vec_len, vec_capacity}
use Rattle.teb_rules.specs.declared.names.Txn.{Txn}
use Rattle.teb_rules.specs.declared.names.Cell.{Cell}
use Rattle.teb_rules.specs.declared.history.Event.{Event}
use Rattle.teb_rules.specs.history.Ascending.{IsAscendingBy}
use Rattle.teb_rules.specs.history.Live.{number_of}
use Rattle.teb_rules.specs.history.Phases.{begun_count}
use Rattle.cell_index.specs.Lists.{list_for}
use Rattle.arena_multimap.specs.NumberedLists.{list_in}
use Rattle.dependency_book.specs.declared.registers.Registers.{Registers}
use Rattle.dependency_book.specs.Dependencies.{readers, writers, sources, unfinished_txns}
use Rattle.dependency_book.specs.Orderly.{Orderly}
use Rattle.dependency_book.specs.Places.{HasRoom}

-- the cells, and for each of them in that order its readers, beside the writer read from, and its writers; the sources of each transaction,
-- in the order in which they began; and the unfinished transactions
pub record Lists : Type 0 where
  pub cells : List Cell
  pub readers : List (List (Txn × Txn))
  pub writers : List (List Txn)
  pub sources : List (List Txn)
  pub unfinished : List Txn

-- the lists, and how many more events may be noted without memory
pub record Shown : Type 0 where
  pub lists : Lists
  pub spare : ℕ

abbrev pub readers_in : Lists → Cell → List (Txn × Txn)
readers_in b x = list_for b.cells b.readers x

abbrev pub writers_in : Lists → Cell → List Txn
writers_in b x = list_for b.cells b.writers x

-- the list of the transaction with a number: lists are numbered from 0, and transactions from 1
abbrev pub list_of : List (List Txn) → ℕ → List Txn
list_of ls zero = []
list_of ls (suc i) = list_in ls i

abbrev pub sources_in : Lists → Txn → List Txn
sources_in b t = list_of b.sources t.0

-- the lists are those of a history, with sources for each that has begun
pub record BookOf (b : Lists) (H : List Event) : Type 0 where
  pub orderly : Orderly H
  pub readers : (x : Cell) → readers_in b x ≡ readers H x
  pub writers : (x : Cell) → writers_in b x ≡ writers H x
  pub sources : (t : Txn) → sources_in b t ≡ sources H t
  pub begun : length b.sources ≡ begun_count H
  pub unfinished : b.unfinished ≡ unfinished_txns H

abbrev pub lists_of : Registers → Lists
lists_of r = record { cells = r.cells.cells; readers = r.cells.readers; writers = r.cells.writers; sources = r.sources.lists; unfinished = r.unfinished.items }

-- the sources of each transaction ascend
abbrev pub SourcesAscend : List (List Txn) → Type 0
SourcesAscend ls = (t : Txn) → IsAscendingBy number_of (list_of ls t.0)

-- each list has room for n more
pub record HasRooms (r : Registers) (n : ℕ) : Type 0 where
  pub cells : HasRoom r.cells.room n
  pub sources : n ≤ r.sources.spare
  pub unfinished : vec_len r.unfinished + n ≤ vec_capacity r.unfinished

-- the sources ascend, and there is room for n events
pub record IsBook (r : Registers) (n : ℕ) : Type 0 where
  pub ascending : SourcesAscend r.sources.lists
  pub rooms : HasRooms r n
