-- Errors of a reading and of a checkpoint as those of an opening.
use Rattle.record_journal.specs.declared.error.RecoverError.{RecoverError}
use Rattle.record_journal.specs.declared.error.RecoverError.TheVariants as reading
use Rattle.epoch_journal.specs.declared.error.OpenError.{OpenError}
use Rattle.epoch_journal.specs.declared.error.OpenError.TheVariants as opening
use Rattle.epoch_journal.specs.declared.error.CheckpointError.{CheckpointError}
use Rattle.epoch_journal.specs.declared.error.CheckpointError.TheVariants as checkpoint

abbrev pub as_open : RecoverError → OpenError
as_open reading.DiskFault = opening.DiskFault
as_open (reading.Damaged at) = opening.Damaged at
as_open reading.OutOfMemory = opening.OutOfMemory

abbrev pub begun_as : CheckpointError → OpenError
begun_as checkpoint.Full = opening.Full
begun_as checkpoint.DiskFault = opening.DiskFault
begun_as checkpoint.OutOfMemory = opening.OutOfMemory
