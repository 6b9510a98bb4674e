use Rattle.std.proofs.Common.{◌≡◌, filter}
use Rattle.store_setup.specs.tree.Grown.{kind_numbers}
use Rattle.teb_rules.specs.Tree.{below}
use Rattle.teb_rules.specs.Steps.{stands_under}
use Rattle.runtime_pipeline.proofs.under.kinds_under.Given as goal

abbrev pub invariant-loop-k : goal.invariant-loop-k
invariant-loop-k l = kind_numbers l.kinds.items ≡ filter (stands_under l.fn.tree.rows l.fn.node.0) (below l.k)
