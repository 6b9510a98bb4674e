use Rattle.guarantees.proofs.Laws.{names_causes}
use Rattle.guarantees.proofs.aborts_name_their_cause.Goals as goal

pub returns : goal.returns
returns c = names_causes
