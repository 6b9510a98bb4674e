use Rattle.teb_rules.proofs.lemmas.laws.Laws.{sessions_hold_one}
use Rattle.teb_rules.proofs.laws.sessions_hold_one.Goals as goal

pub returns : goal.returns
returns c = sessions_hold_one
