use Rattle.std.proofs.Common.{◌∙◌}
use Rattle.tree_toml.proofs.Numbers.{contains_table}
use Rattle.tree_toml.proofs.steps.has_table.Goals as goal

pub returns : goal.returns
returns c = c.contains.ensures.value ∙ contains_table c.args.step.now c.args.table.0
