-- Commits that are asked ahead of their calls.
use Rattle.std.specs.Prelude.{◌≡◌, ◌⊎◌, ◌<◌, ◌+◌, ℕ, true, List, [], length, Option, Some, None}
use Rattle.teb_rules.specs.declared.names.Reply.{Reply}
use Rattle.teb_rules.specs.declared.names.Reply.TheVariants.{Committed}
use Rattle.teb_rules.specs.declared.names.Request.{Request}
use Rattle.teb_rules.specs.declared.history.Event.{Event}
use Rattle.teb_rules.specs.Answer.{answer}
use Rattle.commit_laws.specs.Commits.{commit_count}
use Rattle.crash_disk.specs.Log.{contents}
use Rattle.engine_core.specs.EngineModel.{EngineModel}
use Rattle.tebaldi_c.specs.Shelves.{FileState, IsShown, ShelfState, calls}
use Rattle.tebaldi_c.specs.declared.status.TheConstants.{OK, NOT_OPEN, BAD_VERB, NO_SUCH, OUT_OF_MEMORY, STOPPED, NO_ROOM, WAITING, UNSURE}

-- the number of a commit among those of its epoch, whose history has it; of any other reply, 0
abbrev pub commit_number : Reply → List Event → ℕ
commit_number Committed H = commit_count H
commit_number _ H = 0

-- this is the number of what a request of a session was answered
abbrev pub IsNumberOf : EngineModel → EngineModel → ℕ → Request → ℕ → Type 0
IsNumberOf old new s r n = n ≡ commit_number (answer old.store old.events (record { 0 = s }) r).0 new.events

abbrev pub IsNumbered : Option ShelfState → Option ShelfState → ℕ → Option Request → ℕ → Type 0
IsNumbered (Some old) (Some new) s (Some r) n = IsNumberOf old.engine new.engine s r n
IsNumbered _ _ s _ n = ⊥

-- Of the file nothing has changed but which commits wait for their calls. If no call waits, those that were performed may be forgotten.
pub record IsAhead (f g : FileState) : Type 0 where
  pub journal : 0 < f.waiting → g.journal ≡ f.journal
  pub bytes : contents (calls g) ≡ contents (calls f)
  pub stopped : g.journal.stopped ≡ f.journal.stopped
  pub waiting : g.waiting ≡ f.waiting
  pub kept : g.kept ≡ f.kept
  pub failed : g.failed ≡ f.failed
  pub opened : g.opened ≡ f.opened

abbrev pub FileIsAhead : Option FileState → Option FileState → Type 0
FileIsAhead None None = Unit {0}
FileIsAhead (Some f) (Some g) = IsAhead f g
FileIsAhead _ _ = ⊥

abbrev pub KeepsAhead : Option ShelfState → Option ShelfState → Type 0
KeepsAhead None None = Unit {0}
KeepsAhead (Some s) (Some t) = FileIsAhead s.file t.file
KeepsAhead _ _ = ⊥

-- no commit waits for its calls any more: those that waited have them
pub record IsWritten (f g : FileState) : Type 0 where
  pub none : g.gathered ≡ []
  pub acknowledged : g.journal.acknowledged ≡ f.journal.acknowledged + length f.gathered
  pub kept : 0 < g.waiting → g.kept ≡ f.kept
  pub failed : g.failed ≡ f.failed
  pub opened : g.opened ≡ f.opened
  pub shown : IsShown f g

abbrev pub FileIsWritten : Option FileState → Option FileState → Type 0
FileIsWritten (Some f) (Some g) = IsWritten f g
FileIsWritten _ _ = ⊥

abbrev pub WritesAll : Option ShelfState → Option ShelfState → Type 0
WritesAll (Some s) (Some t) = (t.engine ≡ s.engine) × FileIsWritten s.file t.file
WritesAll _ _ = ⊥

-- the engine is the same, and its disk in memory has stopped
abbrev pub FileHasStopped : Option FileState → Type 0
FileHasStopped None = ⊥
FileHasStopped (Some f) = f.journal.stopped ≡ true

abbrev pub HasStopped : Option ShelfState → Option ShelfState → Type 0
HasStopped (Some s) (Some t) = (t.engine ≡ s.engine) × FileHasStopped t.file
HasStopped _ _ = ⊥

-- what an ask ahead may return, and a write
abbrev pub IsOfAhead : ℕ → Type 0
IsOfAhead n = (n ≡ OK) ⊎ (n ≡ NOT_OPEN) ⊎ (n ≡ BAD_VERB) ⊎ (n ≡ NO_SUCH) ⊎ (n ≡ OUT_OF_MEMORY) ⊎ (n ≡ STOPPED) ⊎ (n ≡ NO_ROOM)

abbrev pub IsOfWrite : ℕ → Type 0
IsOfWrite n = (n ≡ OK) ⊎ (n ≡ NOT_OPEN) ⊎ (n ≡ NO_SUCH) ⊎ (n ≡ STOPPED) ⊎ (n ≡ WAITING) ⊎ (n ≡ UNSURE)
