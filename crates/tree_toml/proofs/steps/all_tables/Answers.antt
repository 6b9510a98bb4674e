use Rattle.std.proofs.Common.{refl}
use Rattle.teb_rules.specs.Tree.{below}
use Rattle.tree_toml.proofs.Numbers.{below_more}
use Rattle.tree_toml.proofs.steps.all_tables.Goals as goal

pub loop-number-init : goal.loop-number-init
unfolding below
loop-number-init c = rw c.new-step.ensures.items

pub loop-number-preserved : goal.loop-number-preserved
loop-number-preserved c = below_more _ _ _ _ c.loop-number.invariant c.in_ok-push.ensures.items refl
