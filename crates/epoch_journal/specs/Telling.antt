-- The table that a disk stands for, and how much of a list of records that is.
use Rattle.std.specs.Prelude.{◌≡◌, ℕ, ◌≤◌, List, [], ◌∷◌, ◌++◌, length, take, Some, None, ℤ}
use Rattle.teb_rules.specs.declared.names.Cell.{Cell}
use Rattle.teb_rules.specs.Replay.{Values}
use Rattle.record_journal.specs.Format.{Record}
use Rattle.record_journal.specs.Journal.{after_records}
use Rattle.epoch_journal.specs.Layout.{Layout}
use Rattle.epoch_journal.specs.Halves.{HasRecords}

abbrev pub no_rows : Values
no_rows x = None

-- The table that records stand for. The first of them is a checkpoint, so they begin with no row; without records it is the
-- starting table.
abbrev pub table_of : Values → List Record → Values
table_of start [] = start
table_of start (r ∷ rs) = after_records (r ∷ rs) no_rows

-- the disk stands for this table
pub record Stands (l : Layout) (start T : Values) (file : List ℕ) : Type 0 where
  pub list : List Record
  pub has : HasRecords l list file
  pub table : (x : Cell) → table_of start list x ≡ T x

-- the disk stands for the table after the first k of all records, for a k that is at least `least`
pub record Tells (l : Layout) (start : Values) (all : List Record) (least : ℕ) (file : List ℕ) : Type 0 where
  pub k : ℕ
  pub no_fewer : least ≤ k
  pub no_more : k ≤ length all
  pub stands : Stands l start (after_records (take k all) start) file

-- there is a checkpoint
abbrev pub IsBegun : List Record → Type 0
IsBegun [] = ⊥
IsBegun (r ∷ rs) = Unit {0}

-- as `Stands` and `Tells`, of a disk whose current half has a checkpoint
pub record StandsOn (l : Layout) (start T : Values) (file : List ℕ) : Type 0 where
  pub stands : Stands l start T file
  pub begun : IsBegun stands.list

pub record TellsOn (l : Layout) (start : Values) (all : List Record) (least : ℕ) (file : List ℕ) : Type 0 where
  pub tells : Tells l start all least file
  pub begun : IsBegun tells.stands.list

-- the changes of a checkpoint: each row, the last one first, so that the first row of a cell counts
abbrev pub checkpoint_of : List (Cell × ℤ) → Record
checkpoint_of [] = []
checkpoint_of (r ∷ rs) = checkpoint_of rs ++ record { cell = r.0; value = Some r.1 } ∷ []
