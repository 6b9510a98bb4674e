use Rattle.std.proofs.Common.{◌≡◌}
use Rattle.phase_api.specs.FactsView.{setup_of, events_of}
use Rattle.snapshot_node.specs.Pivots.{ComesIn}
use Rattle.snapshot_node.proofs.Least.{Remains}
use Rattle.snapshot_node.proofs.Comers.{ComesBy}
use Rattle.snapshot_node.proofs.validation.Validation.least_before.Given as goal

abbrev pub invariant-loop-access : goal.invariant-loop-access
invariant-loop-access l =
    let S = setup_of l.fn.self.asked.facts.now in
    let H = events_of l.fn.self.asked.facts.now in
    let n = l.fn.self.asked.register.now.node.0 in
    let t = l.fn.self.t.0 in
    record {
      book : l.access-iterator.book ≡ l.fn.self.asked.register.now.accesses;
      least : Remains (ComesBy S H n t) (ComesIn S H n t) l.access-iterator.left l.least;
    }
