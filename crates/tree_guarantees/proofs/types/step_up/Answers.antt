use Rattle.std.proofs.Common.{arith}
use Rattle.store_setup.proofs.lemmas.tree.Climbing.{climbs}
use Rattle.tree_guarantees.proofs.Leaves.{parent_is, parent_within}
use Rattle.tree_guarantees.proofs.types.step_up.Goals as goal

pub returns-clause-climbs : goal.returns-clause-climbs
returns-clause-climbs c = climbs c.args.tree.now.rows c.args.most c.args.n.0 c.row.result.now.parent (omega arith) (parent_is c.args.tree.now.rows c.args.n.0 c.row.result.now c.row.ensures)

pub returns-clause-within : goal.returns-clause-within
returns-clause-within c = parent_within c.args.tree.now c.args.n.0 c.row.result.now c.len-accepted.ensures.accepted c.requires c.row.ensures
