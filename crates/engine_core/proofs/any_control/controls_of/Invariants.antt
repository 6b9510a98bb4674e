use Rattle.engine_core.proofs.Starting.{AreFirst}
use Rattle.engine_core.specs.AnyControls.{any_node_number, any_stands}
use Rattle.phase_api.specs.FactsView.{setup_of, events_of}
use Rattle.engine_core.proofs.any_control.controls_of.Given as goal

abbrev pub invariant-loop-n : goal.invariant-loop-n
invariant-loop-n l = AreFirst any_node_number any_stands (setup_of l.facts) (events_of l.facts) l.controls.items l.n
