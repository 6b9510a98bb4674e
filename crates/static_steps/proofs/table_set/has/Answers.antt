use Rattle.static_steps.proofs.Bits.{tested}
use Rattle.static_steps.proofs.table_set.has.Goals as goal

pub returns : goal.returns
returns c = tested c.args.set c.args.a
