use Rattle.teb_rules.proofs.lemmas.laws.Laws.{ranks_agree}
use Rattle.teb_rules.proofs.laws.ranks_agree.Goals as goal

pub returns : goal.returns
returns c = ranks_agree
