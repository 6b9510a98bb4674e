use Rattle.teb_rules.proofs.lemmas.laws.Within.{stays_within}
use Rattle.teb_rules.proofs.laws.names_are_known.Goals as goal

pub returns : goal.returns
returns c = stays_within
