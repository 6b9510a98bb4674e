use Rattle.phase_api.specs.FactsView.{setup_of, events_of}
use Rattle.engine_core.proofs.Noting.{AreDone, HasNoted}
use Rattle.engine_core.proofs.notes.note_each.Given as goal

abbrev pub invariant-loop-control : goal.invariant-loop-control
invariant-loop-control g l =
    let old = l.initial.control-items in
    AreDone (HasNoted g.K.Control.node_number g.K.Control.stands g.K.Control.spare (setup_of l.facts) (events_of l.facts) old) old l.control-items l.control-index
