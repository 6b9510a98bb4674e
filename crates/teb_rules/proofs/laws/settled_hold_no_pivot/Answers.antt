use Rattle.teb_rules.proofs.lemmas.laws.Laws.{no_pivots}
use Rattle.teb_rules.proofs.laws.settled_hold_no_pivot.Goals as goal

pub returns : goal.returns
returns c = no_pivots
