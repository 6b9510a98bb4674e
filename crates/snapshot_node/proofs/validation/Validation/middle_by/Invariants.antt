use Rattle.phase_api.specs.FactsView.{setup_of, events_of}
use Rattle.snapshot_node.specs.Pivots.{IsMiddleAmong}
use Rattle.snapshot_node.proofs.FirstOf.{NoneBefore}
use Rattle.snapshot_node.proofs.validation.Validation.middle_by.Given as goal

abbrev pub invariant-loop-b : goal.invariant-loop-b
invariant-loop-b l = NoneBefore (IsMiddleAmong (setup_of l.fn.self.asked.facts.now) (events_of l.fn.self.asked.facts.now) l.fn.self.asked.register.now.node.0 l.fn.self.t.0 l.fn.a.0 l.fn.among)
    (record { 0 = 0 }) l.fn.among l.b-index
