use Rattle.std.proofs.Common.{arith}
use Rattle.epoch_journal.proofs.Sizes.{small_half}
use Rattle.epoch_journal.proofs.journal.EpochJournal.reserve.Goals as goal

pub overflow_add-mark : goal.overflow_add-mark
overflow_add-mark g c = omega (arith, small_half c.self.inside.capacity, c.base.ensures.small, c.self.invariant.within)

pub overflow_add-mark-2 : goal.overflow_add-mark-2
overflow_add-mark-2 g c = omega (arith, small_half c.self.inside.capacity, c.base.ensures.small, c.self.invariant.within)
