use Rattle.std.proofs.Common.{length}
use Rattle.store_setup.proofs.profile.faults.+first_step_fault.Given as goal

abbrev pub decreases-first_step_fault : goal.decreases-first_step_fault
decreases-first_step_fault l = length l.steps.now
