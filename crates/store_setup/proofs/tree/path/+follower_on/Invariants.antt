use Rattle.std.proofs.Common.{length}
use Rattle.store_setup.proofs.tree.path.+follower_on.Given as goal

abbrev pub decreases-follower_on : goal.decreases-follower_on
decreases-follower_on l = length l.nodes.now
