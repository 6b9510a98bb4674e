-- What the shell sees of a store on a disk, and what a crash leaves of it.
use Rattle.std.specs.Prelude.{◌≡◌, ◌⊎◌, ℕ, ◌-◌, List}
use Rattle.teb_rules.specs.declared.history.Event.{Event}
use Rattle.teb_rules.specs.Setup.{Store}
use Rattle.engine_core.specs.EngineModel.{EngineModel}
use Rattle.epoch_journal.specs.Layout.{half_size}
use Rattle.epoch_store.specs.Stored as Kept
use Rattle.engine_store.specs.Telling.{LeavesOnlyUntilRenewed, TellsCommits}
use Rattle.engine_store.specs.declared.error.NextError.{NextError}
use Rattle.engine_store.specs.declared.error.NextError.TheVariants as next
use Rattle.shell_runner.specs.States.{Stored}
use Rattle.shell_runner.specs.declared.store.EpochError.{EpochError}
use Rattle.shell_runner.specs.declared.store.EpochError.TheVariants as errors

abbrev pub KeptModel : Type 0 → Type 0
KeptModel D = Kept.Stored EngineModel D

abbrev pub stored_of : {D : Type 0} → KeptModel D → Stored
stored_of s = record {
  store = s.engine.store;
  names = s.engine.names;
  events = s.engine.events;
  commits = s.journal.acknowledged;
  left = half_size s.journal.layout.capacity - s.journal.end;
  stopped = s.journal.stopped;
}

module _ {D : Type 0} (seen : D → List ℕ) (faults : D → ℕ) (moment : D → ℕ) (left_since : D → ℕ → List ℕ → Type 0) where
  -- whatever a crash leaves from s on, up to t, has the first commits of this history, all that s has answered among them
  abbrev LeavesCommits : KeptModel D → KeptModel D → Store → List Event → Type 0
  LeavesCommits s t X H = LeavesOnlyUntilRenewed seen faults moment left_since s.journal.disk t.journal.disk (TellsCommits s.journal.layout X H s.journal.acknowledged)

  -- the history is that of t, which s leads to; or that of s, whose epoch ends
  abbrev pub IsSafe : KeptModel D → KeptModel D → Type 0
  IsSafe s t = LeavesCommits s t t.engine.store t.engine.events ⊎ LeavesCommits s t s.engine.store s.engine.events

-- why no next epoch begins, as the shell has it; the store runs, and the tables are always the same
abbrev pub IsEpochError : NextError → EpochError → Type 0
IsEpochError next.Stopped w = ⊥
IsEpochError (next.Again t) w = w ≡ errors.Unfinished t
IsEpochError (next.Untold s) w = w ≡ errors.Untold s
IsEpochError next.OtherTables w = ⊥
IsEpochError next.Full w = w ≡ errors.Full
IsEpochError next.DiskFault w = w ≡ errors.DiskFault
IsEpochError next.OutOfMemory w = w ≡ errors.OutOfMemory
