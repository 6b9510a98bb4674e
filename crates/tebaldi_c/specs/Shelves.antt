-- What contracts see of a handle's store.
use Rattle.std.specs.Prelude.{◌≡◌, ℕ, ◌+◌, ◌-◌, ◌<◌, ◌≤◌, Bool, true, false, List, [], length, Option}
use Rattle.record_journal.specs.Format.{Record}
use Rattle.engine_core.specs.EngineModel.{EngineModel}
use Rattle.commit_laws.specs.Commits.{commit_count}
use Rattle.crash_disk.specs.Log.{Step, LeftSince}
use Rattle.crash_disk.specs.declared.memory.MemDisk.{MemDisk}
use Rattle.epoch_journal.specs.State.{JournalState}
use Rattle.engine_store.specs.Telling.{TellsCommits}

-- What is known of a store's file: the journal, on a disk in memory that has the calls for the file; the records of the commits that wait
-- for their calls, the oldest first; how many of the calls, the last ones, wait to be performed; whether all were performed since the opening;
-- how many commits of this epoch are in the file; and whether a call on the file has failed.
pub record FileState : Type 0 where
  pub journal : JournalState MemDisk
  pub gathered : List Record
  pub waiting : ℕ
  pub opened : Bool
  pub kept : ℕ
  pub failed : Bool

-- the engine of the present epoch, and the file if there is one
pub record ShelfState : Type 0 where
  pub engine : EngineModel
  pub file : Option FileState

-- the calls for the file, the first one first, and the place of the first that waits
abbrev pub calls : FileState → List Step
calls f = f.journal.disk.log.steps

abbrev pub next_place : FileState → ℕ
next_place f = length (calls f) - f.waiting

-- if calls wait now, and none did before, then they are those that were added
abbrev pub IsShown : FileState → FileState → Type 0
IsShown f g = 0 < g.waiting → next_place g ≡ length (calls f)

-- no commit waits for its calls, and no call to be performed
pub record IsIdle (f : FileState) : Type 0 where
  pub no_call : f.waiting ≡ 0
  pub no_commit : f.gathered ≡ []

-- The disk in memory fails at no call, and none of its calls was refused memory.
pub record DoesNotFail (disk : MemDisk) : Type 0 where
  pub no_stop : disk.counter.stop ≡ 0
  pub granted : disk.counter.refusals ≡ 0

-- Each image that a crash may leave of a file on which the calls before the waiting ones were performed, now or while those are performed,
-- has the rows after the first commits, at least those that are kept.
pub record KeepsFile (e : EngineModel) (f : FileState) : Type 0 where
  pub few : f.waiting ≤ length (calls f)
  pub each : f.opened ≡ true → (image : List ℕ) → LeftSince (calls f) (next_place f) image → TellsCommits f.journal.layout e.store e.events f.kept image
  pub settled : f.waiting ≡ 0 → (f.opened ≡ true) × (f.kept ≡ f.journal.acknowledged)
  pub all : f.journal.stopped ≡ false → f.journal.acknowledged + length f.gathered ≡ commit_count e.events
  pub disk : DoesNotFail f.journal.disk

-- a store in a file
pub record Filed : Type 0 where
  pub engine : EngineModel
  pub file : FileState
