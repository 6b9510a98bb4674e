use Rattle.phase_runner.proofs.Following.{phases_follow}
use Rattle.phase_runner.proofs.run.run_phases.Goals as goal

pub run_in_turn-requires : goal.run_in_turn-requires
run_in_turn-requires c = phases_follow c.args.bytes.now c.in-Ok.ensures.0 c.in-Ok.tasks.items c.in-Ok.ensures.2
