-- The fault of an epoch after which the next one has not begun.
use Rattle.std.proofs.Common.{◌≡◌, Err, refl, sym, ◌∙◌}
use Rattle.std.specs.Prelude.{IsErrOf}
use Rattle.engine_store.specs.declared.error.NextError.{NextError}
use Rattle.engine_store.specs.declared.error.NextError.TheVariants as next
use Rattle.shared_store.specs.declared.error.UnaskedError.{UnaskedError}
use Rattle.shared_store.specs.declared.error.UnaskedError.TheVariants.{Stopped, Full, OutOfMemory}
use Rattle.store_server.specs.Standings.{fault_of_next}

not_memory : OutOfMemory ≡ Stopped → ⊥
not_memory e = cc

not_full : Full ≡ Stopped → ⊥
not_full e = cc

only_disk : (why : NextError) → fault_of_next why ≡ Stopped → why ≡ next.DiskFault
only_disk next.Stopped e = absurd (not_memory e)
only_disk (next.Again t) e = absurd (not_memory e)
only_disk (next.Untold s) e = absurd (not_memory e)
only_disk next.OtherTables e = absurd (not_memory e)
only_disk next.Full e = absurd (not_full e)
only_disk next.DiskFault e = refl
only_disk next.OutOfMemory e = absurd (not_memory e)

-- Stopped is told of a failure of the disk alone
pub disk_stops : {T : Type 0} (f : UnaskedError) (why : NextError) → f ≡ fault_of_next why → IsErrOf {T = T} (Err f) Stopped → why ≡ next.DiskFault
disk_stops f why is e = let z : f ≡ Stopped = cc in only_disk why (sym is ∙ z)
