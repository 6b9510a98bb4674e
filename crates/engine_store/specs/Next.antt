-- Why an epoch is not followed by the next.
use Rattle.std.specs.Prelude.{◌≡◌, ◌≢◌, ℕ, ◌+◌, ◌*◌, ◌<◌, ℤ, List, length}
use Rattle.teb_rules.specs.declared.names.Cell.{Cell}
use Rattle.engine_core.specs.EngineModel.{EngineModel}
use Rattle.crash_disk.specs.Calls.{Tally, IsUpTo}
use Rattle.teb_rules.specs.Epochs.{AreFinalRows, IsDrained, IsUntold}
use Rattle.tree_switch.specs.Refusals.{IsLeast, IsUnfinished, AllFinished}
use Rattle.epoch_journal.specs.Layout.{Layout, half_size}
use Rattle.epoch_journal.specs.declared.error.CheckpointError.{CheckpointError}
use Rattle.epoch_journal.specs.declared.error.CheckpointError.TheVariants as checkpoint
use Rattle.engine_store.specs.declared.error.NextError.{NextError}
use Rattle.engine_store.specs.declared.error.NextError.TheVariants.{Stopped, Again, Untold, OtherTables, Full, DiskFault, OutOfMemory}

-- the engine has come to its end, and these are its tables
pub record MayFollow (e : EngineModel) (tables : List (List ℕ)) : Type 0 where
  pub drained : IsDrained e.events
  pub same : tables ≡ e.names.tables

-- the final rows do not fit a half of the disk, behind the label
pub record HasNoRoom (l : Layout) (e : EngineModel) : Type 0 where
  pub rows : List (Cell × ℤ)
  pub final : AreFinalRows e.store e.events rows
  pub long : half_size l.capacity < 10 + length l.label + 14 * length rows

-- at most four calls of the disk, which write the label, the final rows, and the byte that makes their half current
pub record WritesFinalRows (l : Layout) (e : EngineModel) (old new : Tally) : Type 0 where
  pub rows : List (Cell × ℤ)
  pub final : AreFinalRows e.store e.events rows
  pub calls : IsUpTo 4 (11 + length l.label + 14 * length rows) old new

-- what stands against an engine over these tables, before the disk is looked at
abbrev pub IsRefusal : EngineModel → List (List ℕ) → NextError → Type 0
IsRefusal e tables Stopped = ⊥
IsRefusal e tables (Again t) = IsLeast (IsUnfinished e.events) t.0
IsRefusal e tables (Untold s) = AllFinished e.events × IsLeast (IsUntold e.events) s.0
IsRefusal e tables OtherTables = IsDrained e.events × (tables ≢ e.names.tables)
IsRefusal e tables OutOfMemory = MayFollow e tables
IsRefusal e tables Full = ⊥
IsRefusal e tables DiskFault = ⊥

-- what stands against the next epoch
abbrev pub IsCause : Layout → EngineModel → List (List ℕ) → NextError → Type 0
IsCause l e tables Stopped = Unit {0}
IsCause l e tables (Again t) = IsRefusal e tables (Again t)
IsCause l e tables (Untold s) = IsRefusal e tables (Untold s)
IsCause l e tables OtherTables = IsRefusal e tables OtherTables
IsCause l e tables OutOfMemory = MayFollow e tables
IsCause l e tables Full = MayFollow e tables × HasNoRoom l e
IsCause l e tables DiskFault = MayFollow e tables

abbrev pub as_next : CheckpointError → NextError
as_next checkpoint.Full = Full
as_next checkpoint.DiskFault = DiskFault
as_next checkpoint.OutOfMemory = OutOfMemory
