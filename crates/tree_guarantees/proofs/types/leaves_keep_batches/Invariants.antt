use Rattle.std.proofs.Common.{◌≡◌, true}
use Rattle.std.specs.List.{list_all}
use Rattle.teb_rules.specs.Tree.{below}
use Rattle.tree_guarantees.specs.Conditions.{has_batches_for}
use Rattle.tree_guarantees.proofs.types.leaves_keep_batches.Given as goal

abbrev pub invariant-loop-n : goal.invariant-loop-n
invariant-loop-n l = list_all (has_batches_for l.tree.rows l.kind.0) (below l.n) ≡ true
