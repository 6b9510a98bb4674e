use Rattle.teb_rules.proofs.lemmas.laws.Laws.{orders_conflicts}
use Rattle.teb_rules.proofs.laws.conflicts_are_ordered.Goals as goal

pub returns : goal.returns
returns c = orders_conflicts
