use Rattle.teb_rules.proofs.lemmas.laws.Laws.{waits_for_older}
use Rattle.teb_rules.proofs.laws.waits_are_for_older.Goals as goal

pub returns : goal.returns
returns c = waits_for_older
