-- Where a store in epochs is, as a shared store sees it, and its errors.
use Rattle.engine_core.specs.EngineModel.{EngineModel}
use Rattle.epoch_store.specs.declared.error.WriteError.{WriteError}
use Rattle.epoch_store.specs.declared.error.WriteError.TheVariants as write
use Rattle.engine_store.specs.declared.error.NextError.{NextError}
use Rattle.engine_store.specs.declared.error.NextError.TheVariants as next
use Rattle.shared_store.specs.Served.{Standing}
use Rattle.shared_store.specs.declared.error.UnaskedError.{UnaskedError}
use Rattle.shared_store.specs.declared.error.UnaskedError.TheVariants.{Stopped, Full, OutOfMemory}

abbrev pub standing_of : EngineModel → Standing
standing_of e = record { store = e.store; events = e.events }

abbrev pub fault_of_write : WriteError → UnaskedError
fault_of_write write.Full = Full
fault_of_write write.DiskFault = Stopped
fault_of_write write.OutOfMemory = OutOfMemory

-- what may keep the next epoch from beginning if the log runs, the engine is drained, and the tables are the same
abbrev pub IsOfLog : NextError → Type 0
IsOfLog next.Stopped = ⊥
IsOfLog (next.Again t) = ⊥
IsOfLog (next.Untold s) = ⊥
IsOfLog next.OtherTables = ⊥
IsOfLog next.Full = Unit {0}
IsOfLog next.DiskFault = Unit {0}
IsOfLog next.OutOfMemory = Unit {0}

-- how these are told: only DiskFault makes the log fail
abbrev pub fault_of_next : NextError → UnaskedError
fault_of_next next.Stopped = OutOfMemory
fault_of_next (next.Again t) = OutOfMemory
fault_of_next (next.Untold s) = OutOfMemory
fault_of_next next.OtherTables = OutOfMemory
fault_of_next next.Full = Full
fault_of_next next.DiskFault = Stopped
fault_of_next next.OutOfMemory = OutOfMemory
