use Rattle.std.proofs.Common.{length}
use Rattle.store_setup.proofs.tree.path.+last_shared.Given as goal

abbrev pub decreases-last_shared : goal.decreases-last_shared
decreases-last_shared l = length l.a.now
