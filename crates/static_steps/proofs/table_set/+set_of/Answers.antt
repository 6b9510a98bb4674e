use Rattle.std.proofs.Common.{arith}
use Rattle.std.proofs.lemmas.List.{nil_from_length}
use Rattle.static_steps.proofs.Bits.{none_in}
use Rattle.static_steps.proofs.table_set.+set_of.Goals as goal

pub returns-in-empty : goal.returns-in-empty
returns-in-empty t c = λ b. rw (nil_from_length c.args.tables.now (omega arith)) (none_in b)
