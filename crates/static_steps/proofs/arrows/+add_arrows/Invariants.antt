use Rattle.std.proofs.Common.{length}
use Rattle.static_steps.proofs.arrows.+add_arrows.Given as goal

abbrev pub decreases-add_arrows : goal.decreases-add_arrows
decreases-add_arrows l = length l.tables.now
