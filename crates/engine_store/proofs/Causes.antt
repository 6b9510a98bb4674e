-- The causes for which the next epoch does not begin.
use Rattle.std.proofs.Common.{◌≡◌, ℕ, ◌+◌, ◌*◌, ◌<◌, List, length, refl}
use Rattle.store_setup.specs.declared.Setup.{Setup}
use Rattle.engine_core.specs.EngineModel.{EngineModel}
use Rattle.tree_switch.specs.Starts.{IsStarted}
use Rattle.epoch_journal.specs.Layout.{Layout, half_size}
use Rattle.epoch_journal.specs.declared.error.CheckpointError.{CheckpointError}
use Rattle.epoch_journal.specs.declared.error.CheckpointError.TheVariants as checkpoint
use Rattle.engine_store.specs.Next.{IsCause, IsRefusal, MayFollow, as_next}
use Rattle.engine_store.specs.declared.error.NextError.{NextError}
use Rattle.engine_store.specs.declared.error.NextError.TheVariants.{Stopped, Again, Untold, OtherTables, Full, DiskFault, OutOfMemory}

-- the refusal of an engine is a cause
pub engine_cause : (l : Layout) (e : EngineModel) (tables : List (List ℕ)) (why : NextError) → IsRefusal e tables why → IsCause l e tables why
engine_cause l e tables Stopped r = absurd r
engine_cause l e tables (Again t) r = r
engine_cause l e tables (Untold s) r = r
engine_cause l e tables OtherTables r = r
engine_cause l e tables OutOfMemory r = r
engine_cause l e tables Full r = absurd r
engine_cause l e tables DiskFault r = absurd r

-- and so is an error of its checkpoint
pub checkpoint_cause : (l : Layout) (s : Setup) (e f : EngineModel) (tables : List (List ℕ)) (why : CheckpointError) → MayFollow e tables → IsStarted s e f
    → (why ≡ checkpoint.Full → half_size l.capacity < 10 + length l.label + 14 * length f.store.rows) → IsCause l e tables (as_next why)
checkpoint_cause l s e f tables checkpoint.Full may i full = (may, record { rows = f.store.rows; final = i.rows; long = full refl })
checkpoint_cause l s e f tables checkpoint.DiskFault may i full = may
checkpoint_cause l s e f tables checkpoint.OutOfMemory may i full = may
