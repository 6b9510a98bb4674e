-- A store whose commits wait for the disk together.
use Rattle.std.specs.Prelude.{◌≡◌, ℕ, ◌+◌, ◌<◌, false, List, [], ◌++◌, length, Option, Some, None}
use Rattle.teb_rules.specs.Replay.{Values}
use Rattle.crash_disk.specs.Spare.{Spare}
use Rattle.crash_disk.specs.declared.spare.Memory.{Memory}
use Rattle.record_journal.specs.Format.{Record, records}
use Rattle.epoch_journal.specs.Layout.{half_size}
use Rattle.epoch_journal.specs.State.{JournalState}
use Rattle.epoch_journal.specs.Kept.{Keeps}
use Rattle.epoch_journal.specs.Memory.{IsForRecord}

-- what contracts see of it: the engine, the journal, and the records of the commits that wait, the oldest first
pub record Gathering (E D : Type 0) : Type 0 where
  pub engine : E
  pub journal : JournalState D
  pub waiting : List Record

-- how many bytes records take in a journal
abbrev pub size_of : List Record → ℕ
size_of rs = length (records rs)

-- there is memory to write these records, if there are any
abbrev pub IsReserved : {D : Type 0} → (D → Memory → Spare) → List Record → Option Memory → JournalState D → Type 0
IsReserved spare_with waiting None j = waiting ≡ []
IsReserved spare_with waiting (Some memory) j = (0 < length waiting) × IsForRecord spare_with (size_of waiting) memory j

-- The journal has the first of these records, all of them acknowledged. The others wait; there is room and memory for them.
pub record Gathers {D : Type 0} (seen : D → List ℕ) (may_leave : D → List ℕ → Type 0) (spare_with : D → Memory → Spare) (start : Values) (all waiting : List Record) (memory : Option Memory)
    (j : JournalState D) : Type 0 where
  pub kept : List Record
  pub split : all ≡ kept ++ waiting
  pub keeps : Keeps seen may_leave start kept j.acknowledged j
  pub running : j.stopped ≡ false
  pub room : j.end + size_of waiting < half_size j.layout.capacity
  pub reserved : IsReserved spare_with waiting memory j
