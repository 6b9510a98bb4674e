use Rattle.teb_rules.proofs.lemmas.laws.Laws.{every_run_serializes}
use Rattle.teb_rules.proofs.laws.every_run_serializes.Goals as goal

pub returns : goal.returns
returns c = every_run_serializes
