use Rattle.std.proofs.Common.{◌<◌, ℕ, ◌||◌, IsTrue}
use Rattle.teb_rules.specs.Tree.{row, is_locks, is_snapshot}
use Rattle.tree_guarantees.proofs.has_no_cascades.Given as goal

abbrev pub invariant-loop-n : goal.invariant-loop-n
invariant-loop-n l = (m : ℕ) → m < l.n → IsTrue (is_locks (row l.tree.rows m).control || is_snapshot (row l.tree.rows m).control)
