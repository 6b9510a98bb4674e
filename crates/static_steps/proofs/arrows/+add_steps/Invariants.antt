use Rattle.std.proofs.Common.{◌-◌, length}
use Rattle.static_steps.proofs.arrows.+add_steps.Given as goal

abbrev pub decreases-add_steps : goal.decreases-add_steps
decreases-add_steps l = length l.profile.now - l.from
