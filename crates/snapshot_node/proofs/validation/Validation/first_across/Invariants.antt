use Rattle.phase_api.specs.FactsView.{setup_of, events_of}
use Rattle.snapshot_node.specs.Pivots.{IsAcross}
use Rattle.snapshot_node.proofs.FirstOf.{NoneBefore}
use Rattle.snapshot_node.proofs.validation.Validation.first_across.Given as goal

abbrev pub invariant-loop-v : goal.invariant-loop-v
invariant-loop-v l = NoneBefore (IsAcross (setup_of l.fn.self.asked.facts.now) (events_of l.fn.self.asked.facts.now) l.fn.self.asked.register.now.node.0 l.fn.self.t.0 l.fn.u.0 l.fn.among)
    (record { 0 = 0 }) l.fn.among l.v-index
