use Rattle.std.proofs.Common.{◌≡◌}
use Rattle.phase_api.specs.FactsView.{setup_of, events_of}
use Rattle.snapshot_node.specs.Pivots.{IsLeft, IsMiddle}
use Rattle.snapshot_node.proofs.Least.{Remains}
use Rattle.snapshot_node.proofs.CellEdges.{Ahead}
use Rattle.snapshot_node.proofs.Middles.{Both}
use Rattle.snapshot_node.proofs.validation.Validation.least_middle.Given as goal

abbrev pub invariant-loop-access : goal.invariant-loop-access
invariant-loop-access l =
    let S = setup_of l.fn.self.asked.facts.now in
    let H = events_of l.fn.self.asked.facts.now in
    let n = l.fn.self.asked.register.now.node.0 in
    let t = l.fn.self.t.0 in
    record {
      book : l.access-iterator.book ≡ l.fn.self.asked.register.now.accesses;
      least : Remains (Both (Ahead S H n t l.fn.a.0) (IsLeft S H n t)) (IsMiddle S H n t l.fn.a.0) l.access-iterator.left l.least;
    }
