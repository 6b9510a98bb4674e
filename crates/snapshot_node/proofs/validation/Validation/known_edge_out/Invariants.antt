use Rattle.phase_api.specs.FactsView.{setup_of, events_of}
use Rattle.snapshot_node.specs.Validating.{may_lead}
use Rattle.snapshot_node.proofs.Batchmates.{LeaveAbove}
use Rattle.snapshot_node.proofs.validation.Validation.known_edge_out.Given as goal

abbrev pub invariant-loop-i : goal.invariant-loop-i
invariant-loop-i l = LeaveAbove (setup_of l.fn.self.asked.facts.now) (events_of l.fn.self.asked.facts.now) l.fn.self.asked.register.now.node.0 l.fn.self.t.0 l.fn.b.0 (may_lead l.fn.self) l.i
