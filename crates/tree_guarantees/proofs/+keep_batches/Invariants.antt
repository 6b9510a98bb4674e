use Rattle.std.proofs.Common.{length}
use Rattle.tree_guarantees.proofs.+keep_batches.Given as goal

abbrev pub decreases-keep_batches : goal.decreases-keep_batches
decreases-keep_batches l = length l.nodes.now
