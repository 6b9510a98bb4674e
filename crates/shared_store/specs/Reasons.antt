-- Whether a store is closed with a checkpoint, and if not, why.
use Rattle.std.specs.Prelude.{◌≡◌, ℕ, ◌⊎◌, Bool, true, false, List, []}
use Rattle.teb_rules.specs.declared.history.Event.{Event}
use Rattle.teb_rules.specs.Setup.{Store}
use Rattle.shared_store.specs.declared.error.UnaskedError.{UnaskedError}
use Rattle.shared_store.specs.declared.error.UnaskedError.TheVariants.{Stopped, Full, OutOfMemory}
use Rattle.shared_store.specs.declared.no_checkpoint.NoCheckpoint.{NoCheckpoint}
use Rattle.shared_store.specs.declared.no_checkpoint.NoCheckpoint.TheVariants.{Held, Failed}
use Rattle.shared_store.specs.Served.{IsObstacle, Standing}
use Rattle.teb_rules.specs.Epochs.{IsDrained}

-- the log runs, nothing has happened in the epoch, and the log keeps the rows with which it began and no commit
pub record IsCheckpointed (keep : Store → List Event → ℕ → Type 0) (failed : Bool) (x : Standing) : Type 0 where
  pub runs : failed ≡ false
  pub begun : x.events ≡ []
  pub kept : ∥ keep x.store [] 0 ∥₁

-- the log has failed; with another error than Stopped it may run, and then nothing keeps the epoch from its end
abbrev pub IsCause : Bool → List Event → UnaskedError → Type 0
IsCause failed H Stopped = failed ≡ true
IsCause failed H Full = (failed ≡ true) ⊎ IsDrained H
IsCause failed H OutOfMemory = (failed ≡ true) ⊎ IsDrained H

-- the obstacle is there, and the log has not failed; or the error has its cause
abbrev pub IsReason : Bool → List Event → NoCheckpoint → Type 0
IsReason failed H (Held o) = (failed ≡ false) × IsObstacle H o
IsReason failed H (Failed f) = IsCause failed H f
