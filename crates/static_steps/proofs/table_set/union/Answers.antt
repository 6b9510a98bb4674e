use Rattle.static_steps.proofs.Bits.{in_union}
use Rattle.static_steps.proofs.table_set.union.Goals as goal

pub returns : goal.returns
returns c = in_union c.args.first c.args.second
