use Rattle.std.proofs.Common.{length}
use Rattle.store_setup.proofs.tree.shape.+some_clash.Given as goal

abbrev pub decreases-some_clash : goal.decreases-some_clash
decreases-some_clash l = length l.earlier.now
