use Rattle.teb_rules.proofs.lemmas.laws.Laws.{serves_alone}
use Rattle.teb_rules.proofs.laws.lone_transactions_are_served.Goals as goal

pub returns : goal.returns
returns c = serves_alone
