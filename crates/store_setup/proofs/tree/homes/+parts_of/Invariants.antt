use Rattle.std.proofs.Common.{length}
use Rattle.store_setup.proofs.tree.homes.+parts_of.Given as goal

abbrev pub decreases-parts_of : goal.decreases-parts_of
decreases-parts_of l = length l.rows.now
