-- Recovery errors as errors of opening.
use Rattle.std.proofs.Common.{◌≡◌, ℕ, Result, Ok, Err, sym, ◌∙◌}
use Rattle.std.specs.Result.{IsErrAnd, IsErrOf}
use Rattle.record_journal.specs.declared.error.RecoverError.{RecoverError}
use Rattle.record_journal.specs.declared.error.RecoverError.TheVariants as reading
use Rattle.epoch_journal.specs.declared.error.OpenError.TheVariants as opening
use Rattle.epoch_journal.specs.Errors.{as_open}

pub damaged_as : (e : RecoverError) (at : ℕ) → as_open e ≡ opening.Damaged at → e ≡ reading.Damaged at
damaged_as reading.DiskFault at is = absurd (cc is)
damaged_as (reading.Damaged k) at is =
    let same : k ≡ at = cc is in
    cc
damaged_as reading.OutOfMemory at is = absurd (cc is)

pub fault_as : (e : RecoverError) → as_open e ≡ opening.DiskFault → e ≡ reading.DiskFault
fault_as reading.DiskFault is = cc
fault_as (reading.Damaged k) is = absurd (cc is)
fault_as reading.OutOfMemory is = absurd (cc is)

pub no_label : (e : RecoverError) → as_open e ≡ opening.OtherLabel → ⊥
no_label reading.DiskFault is = cc is
no_label (reading.Damaged k) is = cc is
no_label reading.OutOfMemory is = cc is

pub no_capacity : (e : RecoverError) → as_open e ≡ opening.OtherCapacity → ⊥
no_capacity reading.DiskFault is = cc is
no_capacity (reading.Damaged k) is = cc is
no_capacity reading.OutOfMemory is = cc is

pub not_full : (e : RecoverError) → as_open e ≡ opening.Full → ⊥
not_full reading.DiskFault is = cc is
not_full (reading.Damaged k) is = cc is
not_full reading.OutOfMemory is = cc is

-- the error that `?` passes on is that of the result
pub same_damaged : {X : Type 0} (r : Result X RecoverError) (e : RecoverError) (at : ℕ) → IsErrAnd r (λ x. x ≡ e) → IsErrOf r (reading.Damaged at) → e ≡ reading.Damaged at
same_damaged (Ok x) e at was is = absurd was
same_damaged (Err x) e at was is =
    let same : x ≡ reading.Damaged at = cc is in
    sym was ∙ same
