use Rattle.teb_rules.proofs.lemmas.laws.Laws.{batches_nest}
use Rattle.teb_rules.proofs.laws.batches_nest.Goals as goal

pub returns : goal.returns
returns c = batches_nest
