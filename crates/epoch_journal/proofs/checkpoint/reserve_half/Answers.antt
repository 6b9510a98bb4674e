use Rattle.std.proofs.Common.{arith}
use Rattle.epoch_journal.proofs.Sizes.{small_half}
use Rattle.epoch_journal.proofs.checkpoint.reserve_half.Goals as goal

pub overflow_add-end : goal.overflow_add-end
overflow_add-end g c = omega (arith, small_half c.args.capacity, c.base.ensures.small, c.requires.room)

pub overflow_add-len : goal.overflow_add-len
overflow_add-len g c = omega (arith, small_half c.args.capacity, c.requires.room)
