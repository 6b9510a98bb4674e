use Rattle.std.proofs.Common.{◌≡◌}
use Rattle.teb_rules.specs.Tree.{below}
use Rattle.store_setup.specs.profile.Steps.{numbers_of}
use Rattle.tree_toml.proofs.steps.all_tables.Given as goal

abbrev pub invariant-loop-number : goal.invariant-loop-number
invariant-loop-number l = numbers_of l.step.items ≡ below l.number
