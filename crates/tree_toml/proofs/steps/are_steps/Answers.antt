use Rattle.std.proofs.Common.{sym, ◌∙◌}
use Rattle.tree_toml.specs.Types.{is_step}
use Rattle.tree_toml.proofs.Views.{all_fails, all_more}
use Rattle.tree_toml.proofs.steps.are_steps.Goals as goal

pub returns-then-not-is_step : goal.returns-then-not-is_step
returns-then-not-is_step c = all_fails is_step _ _ _ _ c.loop-value.invariant c.value-item.is c.loop-value-test.true (sym c.is_step.ensures ∙ c.if-not-is_step.true)

pub loop-value-preserved : goal.loop-value-preserved
loop-value-preserved c = all_more is_step _ _ _ _ c.loop-value.invariant c.value-item.is c.loop-value-test.true (sym c.is_step.ensures ∙ c.if-not-is_step.false)
