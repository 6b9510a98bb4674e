-- Errors of a journal as those of a store.
use Rattle.epoch_journal.specs.declared.error.OpenError.{OpenError as JournalError}
use Rattle.epoch_journal.specs.declared.error.OpenError.TheVariants as journal
use Rattle.engine_store.specs.declared.open_error.OpenError.{OpenError}
use Rattle.engine_store.specs.declared.open_error.OpenError.TheVariants as store

abbrev pub as_open : JournalError → OpenError
as_open journal.Full = store.Full
as_open journal.DiskFault = store.DiskFault
as_open (journal.Damaged at) = store.Damaged at
as_open journal.OtherCapacity = store.OtherCapacity
as_open journal.OtherLabel = store.OtherTables
as_open journal.OutOfMemory = store.OutOfMemory
