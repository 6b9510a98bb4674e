use Rattle.std.proofs.Common.{length}
use Rattle.store_setup.proofs.tree.homes.+count_homes.Given as goal

abbrev pub decreases-count_homes : goal.decreases-count_homes
decreases-count_homes l = length l.rows.now
