use Rattle.std.proofs.Common.{arith}
use Rattle.store_setup.specs.tree.Grown.{rows_of}
use Rattle.store_setup.proofs.lemmas.tree.Climbing.{climbs}
use Rattle.store_setup.proofs.tree.way.step_up.Goals as goal

pub returns-else-most-eq0 : goal.returns-else-most-eq0
returns-else-most-eq0 c = climbs (rows_of c.args.rows.now) c.args.most c.args.n.0 c.parent_of.result (omega arith) c.parent_of.ensures
