use Rattle.std.proofs.Common.{◌<◌, arith}
use Rattle.epoch_journal.proofs.Sizes.{small_half}
use Rattle.epoch_store.proofs.queue.CommitQueue.next_epoch.Goals as goal

pub invariant_of-self : goal.invariant_of-self
invariant_of-self g c =
    let left = c.left-self-inside.ensures in
    (left.some, omega (arith, left.left, small_half c.begin_with.new.journal.layout.capacity))
