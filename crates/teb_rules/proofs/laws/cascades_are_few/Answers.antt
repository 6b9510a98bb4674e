use Rattle.teb_rules.proofs.lemmas.laws.Laws.{cascades_are_few}
use Rattle.teb_rules.proofs.laws.cascades_are_few.Goals as goal

pub returns : goal.returns
returns c = cascades_are_few
