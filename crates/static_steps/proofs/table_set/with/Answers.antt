use Rattle.static_steps.proofs.Bits.{in_with}
use Rattle.static_steps.proofs.table_set.with.Goals as goal

pub returns : goal.returns
returns c = λ b. in_with c.args.set c.args.a b c.requires
