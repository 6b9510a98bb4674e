use Rattle.std.proofs.Common.{sym, ◌∙◌}
use Rattle.tree_toml.specs.Types.{is_text}
use Rattle.tree_toml.proofs.Views.{all_fails, all_more}
use Rattle.tree_toml.proofs.steps.are_texts.Goals as goal

pub returns-then-not-is_str : goal.returns-then-not-is_str
returns-then-not-is_str c = all_fails is_text _ _ _ _ c.loop-value.invariant c.value-item.is c.loop-value-test.true (sym c.is_str.ensures ∙ c.if-not-is_str.true)

pub loop-value-preserved : goal.loop-value-preserved
loop-value-preserved c = all_more is_text _ _ _ _ c.loop-value.invariant c.value-item.is c.loop-value-test.true (sym c.is_str.ensures ∙ c.if-not-is_str.false)
