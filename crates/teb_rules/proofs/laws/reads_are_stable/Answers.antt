use Rattle.teb_rules.proofs.lemmas.laws.Laws.{reads_are_stable}
use Rattle.teb_rules.proofs.laws.reads_are_stable.Goals as goal

pub returns : goal.returns
returns c = reads_are_stable
