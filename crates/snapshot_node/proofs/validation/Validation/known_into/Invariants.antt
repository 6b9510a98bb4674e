use Rattle.phase_api.specs.FactsView.{setup_of, events_of}
use Rattle.snapshot_node.specs.Pivots.{IsLeast}
use Rattle.snapshot_node.specs.Validating.{may_be_led_to}
use Rattle.snapshot_node.proofs.Batchmates.{ReachesBy}
use Rattle.snapshot_node.proofs.validation.Validation.known_into.Given as goal

abbrev pub invariant-loop-i : goal.invariant-loop-i
invariant-loop-i l = IsLeast (ReachesBy (setup_of l.fn.self.asked.facts.now) (events_of l.fn.self.asked.facts.now) l.fn.self.asked.register.now.node.0 l.fn.self.t.0 (may_be_led_to l.fn.self) l.fn.c.0
    l.i) l.least
