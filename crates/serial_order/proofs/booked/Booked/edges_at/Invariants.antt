use Rattle.teb_rules.specs.history.Phases.{numbers}
use Rattle.phase_api.specs.FactsView.{setup_of, events_of}
use Rattle.serial_order.specs.Edges.{AreMarked}
use Rattle.serial_order.proofs.booked.Booked.edges_at.Given as goal

abbrev pub invariant-loop-k : goal.invariant-loop-k
invariant-loop-k l = AreMarked (setup_of l.self.facts.now) (events_of l.self.facts.now) 0 (numbers l.k) l.marks.items
