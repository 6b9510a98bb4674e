use Rattle.std.proofs.Common.{sym}
use Rattle.store_setup.specs.tree.Grown.{rows_of}
use Rattle.teb_rules.specs.Accepted.{shape_fault}
use Rattle.store_setup.proofs.lemmas.tree.Below.{none_below, none_more, first_below}
use Rattle.store_setup.proofs.tree.shape.check_shape.Goals as goal

pub loop-n-init : goal.loop-n-init
loop-n-init c = none_below (shape_fault (rows_of c.args.rows.now))

pub returns-in-Some : goal.returns-in-Some
returns-in-Some c = first_below (shape_fault (rows_of c.args.rows.now)) c.loop-n.n _ _ c.loop-n.invariant c.loop-n-test.true (sym c.in-Some.ensures)

pub loop-n-preserved : goal.loop-n-preserved
loop-n-preserved c = none_more (shape_fault (rows_of c.args.rows.now)) c.loop-n.n c.loop-n.invariant (sym c.in_default.ensures)
