use Rattle.std.proofs.Common.{drop}
use Rattle.phase_api.specs.FactsView.{setup_of, events_of}
use Rattle.snapshot_node.specs.Pivots.{ComesInAmong}
use Rattle.snapshot_node.proofs.Least.{Remains}
use Rattle.snapshot_node.proofs.Comers.{ComesThrough, IsLast}
use Rattle.snapshot_node.proofs.validation.Validation.least_before_by.Given as goal

abbrev pub invariant-loop-c : goal.invariant-loop-c
invariant-loop-c l =
    let S = setup_of l.fn.self.asked.facts.now in
    let H = events_of l.fn.self.asked.facts.now in
    let n = l.fn.self.asked.register.now.node.0 in
    record {
      remains : Remains (ComesThrough S H n l.fn.self.t.0) (ComesInAmong S H n l.fn.self.t.0 l.fn.among) (drop l.c-index l.fn.among) l.least;
      last : IsLast S H n l.fn.self.t.0 l.last l.least;
    }
