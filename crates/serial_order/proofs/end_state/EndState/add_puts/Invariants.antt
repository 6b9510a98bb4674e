use Rattle.std.proofs.Common.{drop}
use Rattle.serial_order.specs.Tables.{cells_put}
use Rattle.serial_order.proofs.Adding.{Adding}
use Rattle.serial_order.proofs.end_state.EndState.add_puts.Given as goal

abbrev pub invariant-loop-event : goal.invariant-loop-event
invariant-loop-event g l = Adding l.fn.seen l.seen (cells_put l.event-items) (cells_put (drop l.event-index l.event-items))
