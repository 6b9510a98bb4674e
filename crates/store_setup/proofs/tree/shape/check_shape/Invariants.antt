use Rattle.std.proofs.Common.{◌≡◌, None}
use Rattle.store_setup.specs.tree.Grown.{rows_of}
use Rattle.teb_rules.specs.Accepted.{first_at, shape_fault}
use Rattle.teb_rules.specs.Tree.{below}
use Rattle.store_setup.proofs.tree.shape.check_shape.Given as goal

abbrev pub invariant-loop-n : goal.invariant-loop-n
invariant-loop-n l = first_at (shape_fault (rows_of l.rows)) (below l.n) ≡ None
