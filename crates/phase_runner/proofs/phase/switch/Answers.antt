use Rattle.store_setup.specs.SetupView.{setup_view}
use Rattle.phase_runner.proofs.Running.{only_memory}
use Rattle.phase_runner.proofs.phase.switch.Goals as goal

pub out_of_memory-requires : goal.out_of_memory-requires
out_of_memory-requires g c = only_memory c.args.phases.now.present (setup_view c.args.setup) c.in-Err.why c.requires.may c.in-Err.ensures.refused
