use Rattle.std.proofs.Common.{◌≡◌}
use Rattle.snapshot_node.proofs.OwnEdges.{AheadIn}
use Rattle.snapshot_node.proofs.validation.Validation.least_ahead.Given as goal

abbrev pub invariant-loop-access : goal.invariant-loop-access
invariant-loop-access l = record {
  book : l.access-iterator.book ≡ l.fn.self.asked.register.now.accesses;
  least : AheadIn l.fn.self l.fn.c.0 l.access-iterator.left l.least;
}
