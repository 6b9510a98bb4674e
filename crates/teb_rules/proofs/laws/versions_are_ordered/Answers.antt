use Rattle.teb_rules.proofs.lemmas.laws.Laws.{orders_versions}
use Rattle.teb_rules.proofs.laws.versions_are_ordered.Goals as goal

pub returns : goal.returns
returns c = orders_versions
