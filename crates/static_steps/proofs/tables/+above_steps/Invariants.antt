use Rattle.std.proofs.Common.{◌-◌, length}
use Rattle.static_steps.proofs.tables.+above_steps.Given as goal

abbrev pub decreases-above_steps : goal.decreases-above_steps
decreases-above_steps l = length l.profile.now - l.from
