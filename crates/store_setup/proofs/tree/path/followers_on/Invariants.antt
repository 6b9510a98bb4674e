use Rattle.std.proofs.Common.{◌≡◌, length}
use Rattle.store_setup.specs.tree.Followers.{AreFollowers}
use Rattle.store_setup.proofs.tree.path.followers_on.Given as goal

abbrev pub invariant-loop-n : goal.invariant-loop-n
invariant-loop-n l = AreFollowers l.followers.items l.nodes × (length l.followers.items ≡ l.n)
