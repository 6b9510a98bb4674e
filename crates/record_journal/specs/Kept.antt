-- What a journal keeps: which records a crash may leave.
use Rattle.std.specs.Prelude.{◌≡◌, ℕ, ◌≤◌, false, List, length}
use Rattle.record_journal.specs.declared.journal.Journal.{Journal}
use Rattle.crash_disk.specs.Disk.{Only}
use Rattle.crash_disk.specs.Sizes.{default_capacity}
use Rattle.record_journal.specs.Format.{Record}
use Rattle.record_journal.specs.Journal.{IsAtRest, StandsFor}

-- the disk is at rest with these records, all of them acknowledged
pub record IsRunning {D : Type 0} (seen : D → List ℕ) (may_leave : D → List ℕ → Type 0) (asked : List Record) (journal : Journal D) : Type 0 where
  pub at_rest : IsAtRest default_capacity asked journal.progress.end (seen journal.disk)
  pub durable : Only (seen journal.disk) (may_leave journal.disk)
  pub all : journal.progress.acknowledged ≡ length asked

-- Records were given to the journal in this order. A crash now leaves the first k of them, for a k that is at least what was
-- acknowledged; as long as no call has failed, it leaves all.
pub record Keeps {D : Type 0} (seen : D → List ℕ) (may_leave : D → List ℕ → Type 0) (asked : List Record) (journal : Journal D) : Type 0 where
  pub few : journal.progress.acknowledged ≤ length asked
  pub each : (c : List ℕ) → may_leave journal.disk c → StandsFor default_capacity journal.progress.acknowledged asked c
  pub running : journal.stopped ≡ false → IsRunning seen may_leave asked journal
