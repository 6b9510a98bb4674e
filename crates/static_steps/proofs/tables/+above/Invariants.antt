use Rattle.std.proofs.Common.{length}
use Rattle.static_steps.proofs.tables.+above.Given as goal

abbrev pub decreases-above : goal.decreases-above
decreases-above l = length l.tables.now
