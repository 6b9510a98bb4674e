use Rattle.std.proofs.Common.{length}
use Rattle.tree_guarantees.proofs.types.+holds.Given as goal

abbrev pub decreases-holds : goal.decreases-holds
decreases-holds l = length l.types.now
