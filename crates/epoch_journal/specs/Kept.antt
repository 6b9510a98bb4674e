-- What a journal in epochs keeps: which records a crash may leave.
use Rattle.std.specs.Prelude.{◌≡◌, ℕ, ◌≤◌, false, List, ◌∷◌, ◌++◌, length, take, ℤ}
use Rattle.teb_rules.specs.declared.names.Cell.{Cell}
use Rattle.teb_rules.specs.names.Rows.{row_of}
use Rattle.teb_rules.specs.Replay.{Values}
use Rattle.crash_disk.specs.Disk.{Only}
use Rattle.record_journal.specs.Format.{Record}
use Rattle.record_journal.specs.Journal.{after_records}
use Rattle.epoch_journal.specs.Halves.{IsAt, IsResting}
use Rattle.epoch_journal.specs.State.{JournalState, RecoveredState}
use Rattle.epoch_journal.specs.Telling.{TellsOn, checkpoint_of, table_of}

-- The current half begins with a checkpoint of the table that the records of past epochs left, and goes on with the records of this
-- one. All of it is safe.
pub record IsRunning {D : Type 0} (seen : D → List ℕ) (may_leave : D → List ℕ → Type 0) (start : Values) (all : List Record) (j : JournalState D) : Type 0 where
  pub past : List Record
  pub asked : List Record
  pub rows : List (Cell × ℤ)
  pub split : all ≡ past ++ asked
  pub checkpoint : (x : Cell) → row_of rows x ≡ after_records past start x
  pub resting : IsResting j.layout j.half (checkpoint_of rows ∷ asked) j.end (seen j.disk)
  pub durable : Only (seen j.disk) (may_leave j.disk)

-- All records were given to the journal in this order, in this epoch and in those before, over this starting table. A crash now leaves
-- the table after the first k of them, for a k that is at least `least`; until a call fails, it leaves all.
pub record Keeps {D : Type 0} (seen : D → List ℕ) (may_leave : D → List ℕ → Type 0) (start : Values) (all : List Record) (least : ℕ) (j : JournalState D) : Type 0 where
  pub few : least ≤ length all
  pub each : (c : List ℕ) → may_leave j.disk c → TellsOn j.layout start all least c
  pub running : j.stopped ≡ false → IsRunning seen may_leave start all j
  pub all_safe : j.stopped ≡ false → least ≡ length all

-- What was read of a disk are the rows after the first k of all records, for a k that is at least `least`. A crash leaves what was read.
pub record HasFound {D : Type 0} (seen : D → List ℕ) (may_leave : D → List ℕ → Type 0) (start : Values) (all : List Record) (least k : ℕ) (d : RecoveredState D) : Type 0 where
  pub no_fewer : least ≤ k
  pub no_more : k ≤ length all
  pub rows : (x : Cell) → row_of d.rows x ≡ after_records (take k all) start x
  pub list : List Record
  pub table : (x : Cell) → table_of start list x ≡ after_records (take k all) start x
  pub at : IsAt d.layout list d.current (seen d.disk)
  pub durable : Only (seen d.disk) (may_leave d.disk)
