use Rattle.guarantees.proofs.Laws.{has_no_deadlock}
use Rattle.guarantees.proofs.nobody_deadlocks.Goals as goal

pub returns : goal.returns
returns c = has_no_deadlock
