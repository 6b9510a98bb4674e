-- What a disk has of an epoch.
use Rattle.std.specs.Prelude.{◌≡◌, ℕ, ◌≤◌, List, [], length}
use Rattle.teb_rules.specs.names.Rows.{row_of}
use Rattle.teb_rules.specs.declared.history.Event.{Event}
use Rattle.teb_rules.specs.Replay.{Values}
use Rattle.teb_rules.specs.Setup.{Store}
use Rattle.crash_disk.specs.Calls.{Tally, IsUpTo}
use Rattle.crash_disk.specs.Disk.{LeavesOnly}
use Rattle.commit_laws.specs.Records.{records_of}
use Rattle.epoch_journal.specs.Layout.{Layout, front_end}
use Rattle.epoch_journal.specs.Telling.{Tells, TellsOn}

-- the rows after the first k commits of history H over the rows of store X, for a k that is at least `least`
abbrev pub TellsCommits : Layout → Store → List Event → ℕ → List ℕ → Type 0
TellsCommits l X H least image = TellsOn l (row_of X.rows) (records_of X.setup H) least image

-- a crash at any moment since old, until the disk was renewed, leaves a file that has P; new has the same bytes and faults
pub record LeavesOnlyUntilRenewed {D : Type 0} (seen : D → List ℕ) (faults : D → ℕ) (moment : D → ℕ) (left_since : D → ℕ → List ℕ → Type 0) (old new : D) (P : List ℕ → Type 0) : Type 0 where
  pub last : D
  pub leaves : LeavesOnly moment left_since old last P
  pub same_bytes : seen new ≡ seen last
  pub same_faults : faults new ≡ faults last

-- k calls at most since old, until the disk was renewed, which wrote n bytes at most; new has the same bytes, faults, number of calls and stop
pub record IsUpToUntilRenewed {D : Type 0} (seen : D → List ℕ) (faults : D → ℕ) (tally : D → Tally) (k n : ℕ) (old new : D) : Type 0 where
  pub last : D
  pub calls : IsUpTo k n (tally old) (tally last)
  pub same_bytes : seen new ≡ seen last
  pub same_faults : faults new ≡ faults last
  pub same_calls : (tally new).made ≡ (tally last).made
  pub same_stop : (tally new).promise.stop ≡ (tally last).promise.stop

-- whatever a crash leaves of a disk tells this
abbrev pub AllTellCommits : {D : Type 0} → (D → List ℕ → Type 0) → Layout → Store → List Event → ℕ → D → Type 0
AllTellCommits may_leave l X H least disk = (image : List ℕ) → may_leave disk image → TellsCommits l X H least image

-- a file that ends before the halves has no row yet: it tells those with which a life begins
abbrev pub EmptyDisksTell : Type 0
EmptyDisksTell = (l : Layout) (start : Values) (file : List ℕ) → length file ≤ front_end → Tells l start [] 0 file
