use Rattle.std.proofs.Common.{length}
use Rattle.store_setup.proofs.tree.shape.+repeats.Given as goal

abbrev pub decreases-repeats : goal.decreases-repeats
decreases-repeats l = length l.types.now
