use Rattle.guarantees.proofs.Laws.{reads_go_on}
use Rattle.guarantees.proofs.reads_go_on.Goals as goal

pub returns : goal.returns
returns c = reads_go_on
