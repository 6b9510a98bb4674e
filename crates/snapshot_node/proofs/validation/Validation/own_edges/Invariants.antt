use Rattle.std.proofs.Common.{◌≡◌}
use Rattle.snapshot_node.proofs.OwnEdges.{AheadIn, BehindIn, LeftIn, EnteredIn}
use Rattle.snapshot_node.proofs.validation.Validation.own_edges.Given as goal

abbrev pub invariant-loop-access : goal.invariant-loop-access
invariant-loop-access l = record {
  book : l.access-iterator.book ≡ l.fn.self.asked.register.now.accesses;
  ahead : AheadIn l.fn.self l.fn.self.t.0 l.access-iterator.left l.ahead;
  behind : BehindIn l.fn.self l.fn.self.t.0 l.access-iterator.left l.behind;
  left : LeftIn l.fn.self l.fn.self.t.0 l.left l.access-iterator.left;
  entered : EnteredIn l.fn.self l.fn.self.t.0 l.entered l.access-iterator.left;
}
