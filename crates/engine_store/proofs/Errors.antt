-- Errors of a journal as errors of a store.
use Rattle.std.proofs.Common.{◌≡◌, ℕ}
use Rattle.epoch_journal.specs.declared.error.OpenError.{OpenError as JournalError}
use Rattle.epoch_journal.specs.declared.error.OpenError.TheVariants as journal
use Rattle.engine_store.specs.declared.open_error.OpenError.TheVariants as store
use Rattle.engine_store.specs.OpeningErrors.{as_open}

pub was_damaged : (e : JournalError) (at : ℕ) → as_open e ≡ store.Damaged at → e ≡ journal.Damaged at
was_damaged journal.Full at is = absurd (cc is)
was_damaged journal.DiskFault at is = absurd (cc is)
was_damaged (journal.Damaged k) at is =
    let same : k ≡ at = cc is in
    cc
was_damaged journal.OtherCapacity at is = absurd (cc is)
was_damaged journal.OtherLabel at is = absurd (cc is)
was_damaged journal.OutOfMemory at is = absurd (cc is)

pub was_capacity : (e : JournalError) → as_open e ≡ store.OtherCapacity → e ≡ journal.OtherCapacity
was_capacity journal.Full is = absurd (cc is)
was_capacity journal.DiskFault is = absurd (cc is)
was_capacity (journal.Damaged k) is = absurd (cc is)
was_capacity journal.OtherCapacity is = cc
was_capacity journal.OtherLabel is = absurd (cc is)
was_capacity journal.OutOfMemory is = absurd (cc is)

pub was_label : (e : JournalError) → as_open e ≡ store.OtherTables → e ≡ journal.OtherLabel
was_label journal.Full is = absurd (cc is)
was_label journal.DiskFault is = absurd (cc is)
was_label (journal.Damaged k) is = absurd (cc is)
was_label journal.OtherCapacity is = absurd (cc is)
was_label journal.OtherLabel is = cc
was_label journal.OutOfMemory is = absurd (cc is)

pub was_full : (e : JournalError) → as_open e ≡ store.Full → e ≡ journal.Full
was_full journal.Full is = cc
was_full journal.DiskFault is = absurd (cc is)
was_full (journal.Damaged k) is = absurd (cc is)
was_full journal.OtherCapacity is = absurd (cc is)
was_full journal.OtherLabel is = absurd (cc is)
was_full journal.OutOfMemory is = absurd (cc is)

pub was_fault : (e : JournalError) → as_open e ≡ store.DiskFault → e ≡ journal.DiskFault
was_fault journal.Full is = absurd (cc is)
was_fault journal.DiskFault is = cc
was_fault (journal.Damaged k) is = absurd (cc is)
was_fault journal.OtherCapacity is = absurd (cc is)
was_fault journal.OtherLabel is = absurd (cc is)
was_fault journal.OutOfMemory is = absurd (cc is)

-- a disk fault stays one
pub is_fault : (e : JournalError) → e ≡ journal.DiskFault → as_open e ≡ store.DiskFault
is_fault e is = cc
