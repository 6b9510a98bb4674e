use Rattle.std.proofs.Common.{length}
use Rattle.store_setup.proofs.tree.shape.+has_child.Given as goal

abbrev pub decreases-has_child : goal.decreases-has_child
decreases-has_child l = length l.rows.now
