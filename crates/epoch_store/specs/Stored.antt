-- What contracts see of a store on a disk.
use Rattle.epoch_journal.specs.State.{JournalState}

-- what is kept, and the journal in which it is
pub record Stored (E D : Type 0) : Type 0 where
  pub engine : E
  pub journal : JournalState D
