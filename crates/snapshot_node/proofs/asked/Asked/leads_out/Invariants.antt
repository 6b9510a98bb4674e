use Rattle.std.proofs.Common.{◌≡◌}
use Rattle.std.specs.List.{list_any}
use Rattle.phase_api.specs.FactsView.{setup_of, events_of}
use Rattle.snapshot_node.specs.Leaving.{has_edge}
use Rattle.snapshot_node.proofs.LeadsOut.{gets_overwritten}
use Rattle.snapshot_node.proofs.asked.Asked.leads_out.Given as goal

abbrev pub invariant-loop-event : goal.invariant-loop-event
invariant-loop-event l =
    let S = setup_of l.self.facts.now in
    let H = events_of l.self.facts.now in
    let n = l.self.register.now.node.0 in
    list_any (gets_overwritten S H n l.fn.a.0) l.event-iterator ≡ has_edge S H n l.fn.a.0
