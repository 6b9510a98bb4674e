-- A store of which some commits wait.
use Rattle.std.specs.Prelude.{◌≡◌, ℕ, ◌+◌, false, List}
use Rattle.teb_rules.specs.declared.history.Event.{Event}
use Rattle.record_journal.specs.Format.{Record}
use Rattle.engine_core.specs.EngineModel.{EngineModel}
use Rattle.commit_laws.specs.Commits.{commit_count}
use Rattle.epoch_journal.specs.Layout.{half_size}
use Rattle.epoch_journal.specs.State.{JournalState}
use Rattle.epoch_store.specs.Gathering.{size_of}
use Rattle.engine_store.specs.Halves.{AreCommitsSince, KeepsCommits}
use Rattle.engine_store.specs.Label.{label_of}

-- what contracts see of it: the engine of the present epoch, the journal, the records of the commits that wait, the oldest first, and how
-- many bytes are left beside them for commits that are asked ahead
pub record Grouped (D : Type 0) : Type 0 where
  pub engine : EngineModel
  pub journal : JournalState D
  pub waiting : List Record
  pub left : ℕ

-- The journal keeps the commits up to some moment of the history; those since then wait. Unless a call of the disk has failed, the journal has
-- acknowledged all that it keeps, and the bytes that are left are those of its half beside the commits that wait.
pub record IsGrouped {D : Type 0} (seen : D → List ℕ) (may_leave : D → List ℕ → Type 0) (s : Grouped D) : Type 0 where
  pub until : List Event
  pub keeps : KeepsCommits seen may_leave s.engine.store until s.journal.acknowledged s.journal
  pub since : AreCommitsSince s.engine.store until s.engine.events s.waiting
  pub all : s.journal.stopped ≡ false → s.journal.acknowledged ≡ commit_count until
  pub label : s.journal.layout.label ≡ label_of s.engine.names.tables
  pub left : s.journal.stopped ≡ false → s.left + (s.journal.end + size_of s.waiting) ≡ half_size s.journal.layout.capacity
