-- A disk that was read.
use Rattle.std.specs.Prelude.{◌≡◌, ℕ, List}
use Rattle.teb_rules.specs.names.Rows.{row_of, IsAscending}
use Rattle.teb_rules.specs.Replay.{Values}
use Rattle.crash_disk.specs.Disk.{IsQuiet, Only}
use Rattle.record_journal.specs.Format.{Record}
use Rattle.epoch_journal.specs.Layout.{Layout}
use Rattle.epoch_journal.specs.Telling.{IsBegun}
use Rattle.epoch_journal.specs.State.{RecoveredState}
use Rattle.epoch_journal.specs.Kept.{HasFound}
use Rattle.epoch_journal.specs.Read.{IsCurrently}
use Rattle.engine_store.specs.Opening.{AllTell, AllTellOn, HasTable}

-- nothing was written; the rows are those that the disk has, or the starting rows if it has none
pub record IsRecovered {D : Type 0} (seen : D → List ℕ) (may_leave : D → List ℕ → Type 0) (moment : D → ℕ) (left_since : D → ℕ → List ℕ → Type 0) (faults capacity : D → ℕ)
    (l : Layout) (start : Values) (disk : D) (d : RecoveredState D) : Type 0 where
  pub quiet : IsQuiet seen may_leave moment left_since faults capacity disk d.disk
  pub durable : Only (seen disk) (may_leave d.disk)
  pub layout : d.layout ≡ l
  pub current : IsCurrently l.capacity d.current (seen disk)
  pub has : HasTable l start (row_of d.rows) (seen disk)
  pub ascending : IsAscending d.rows
  pub found : (all : List Record) (least : ℕ) → AllTell may_leave l start all least disk → (k : ℕ) × HasFound seen may_leave start all least k d
  pub found_on : (first : Values) (all : List Record) (least : ℕ) → AllTellOn may_leave l first all least disk → (k : ℕ) × (found : HasFound seen may_leave first all least k d) × IsBegun found.list
