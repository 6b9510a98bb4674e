use Rattle.teb_rules.proofs.lemmas.laws.Laws.{only_grows}
use Rattle.teb_rules.proofs.laws.histories_only_grow.Goals as goal

pub returns : goal.returns
returns c = only_grows
