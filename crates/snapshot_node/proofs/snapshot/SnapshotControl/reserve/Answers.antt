use Rattle.std.proofs.Common.{List, sym, subst}
use Rattle.teb_rules.specs.declared.names.Node.{Node}
use Rattle.snapshot_node.specs.declared.marks.Mark.{Mark}
use Rattle.snapshot_node.specs.Marks.{AreMarked}
use Rattle.snapshot_node.proofs.snapshot.SnapshotControl.reserve.Goals as goal

pub returns-in_err-reserve-clause-stands : goal.returns-in_err-reserve-clause-stands
returns-in_err-reserve-clause-stands c S H h = record {
  register = c.reserve.ensures.stands S H h.register;
  committed = c.reserve.ensures.committed S H h.committed;
  marked = subst (λ (m : Node). AreMarked S H m.0 c.args.self.now.marks.items) (sym c.reserve.ensures.node) h.marked;
}

pub returns-clause-stands : goal.returns-clause-stands
returns-clause-stands c S H h = record {
  register = c.reserve.ensures.stands S H h.register;
  committed = c.reserve.ensures.committed S H h.committed;
  marked = subst (λ (ms : List Mark). AreMarked S H c.reserve.new.self.node.0 ms) (sym c.make_wide_room.ensures.items)
      (subst (λ (m : Node). AreMarked S H m.0 c.args.self.now.marks.items) (sym c.reserve.ensures.node) h.marked);
}
