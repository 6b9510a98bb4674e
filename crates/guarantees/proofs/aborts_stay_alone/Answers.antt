use Rattle.guarantees.proofs.Laws.{aborts_alone}
use Rattle.guarantees.proofs.aborts_stay_alone.Goals as goal

pub returns : goal.returns
returns c = aborts_alone
