-- Why there is no checkpoint.
use Rattle.std.proofs.Common.{◌≡◌, Bool, true, List, inl, inr, refl}
use Rattle.teb_rules.specs.declared.history.Event.{Event}
use Rattle.shared_store.specs.declared.error.UnaskedError.{UnaskedError}
use Rattle.shared_store.specs.declared.error.UnaskedError.TheVariants.{Stopped, Full, OutOfMemory}
use Rattle.shared_store.specs.Reasons.{IsCause}
use Rattle.teb_rules.specs.Epochs.{IsDrained}

-- each error of a log that has failed
pub failed_cause : (failed : Bool) (H : List Event) (f : UnaskedError) → failed ≡ true → IsCause failed H f
failed_cause failed H Stopped e = e
failed_cause failed H Full e = inl e
failed_cause failed H OutOfMemory e = inl e

-- each error in an epoch that nothing keeps from its end, if the log has failed after Stopped
pub drained_cause : (failed : Bool) (H : List Event) (f : UnaskedError) → IsDrained H → (f ≡ Stopped → failed ≡ true) → IsCause failed H f
drained_cause failed H Stopped d e = e refl
drained_cause failed H Full d e = inr d
drained_cause failed H OutOfMemory d e = inr d
