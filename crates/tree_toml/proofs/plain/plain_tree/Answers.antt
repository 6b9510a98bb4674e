use Rattle.std.proofs.Common.{arith}
use Rattle.tree_toml.proofs.PlainFacts.{rows_kept, one_row, grown_plain}
use Rattle.tree_toml.proofs.plain.plain_tree.Goals as goal

pub grow-requires-clause-rows : goal.grow-requires-clause-rows
grow-requires-clause-rows c = rows_kept _ c.in_ok-rows.ensures

pub grow-requires-clause-some : goal.grow-requires-clause-some
grow-requires-clause-some c = omega (arith, one_row _ c.in_ok-rows.ensures)

pub grow-requires-clause-few : goal.grow-requires-clause-few
grow-requires-clause-few c = omega (arith, one_row _ c.in_ok-rows.ensures)

pub returns : goal.returns
returns c = grown_plain _ c.grow.result c.in_ok-rows.ensures c.grow.ensures
