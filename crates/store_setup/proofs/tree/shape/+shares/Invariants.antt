use Rattle.std.proofs.Common.{length}
use Rattle.store_setup.proofs.tree.shape.+shares.Given as goal

abbrev pub decreases-shares : goal.decreases-shares
decreases-shares l = length l.types.now
