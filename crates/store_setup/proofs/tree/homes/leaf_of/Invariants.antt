use Rattle.std.proofs.Common.{◌≡◌, None}
use Rattle.std.specs.List.{find}
use Rattle.store_setup.specs.tree.Grown.{rows_of}
use Rattle.teb_rules.specs.Tree.{below, houses, row}
use Rattle.store_setup.proofs.tree.homes.leaf_of.Given as goal

abbrev pub invariant-loop-n : goal.invariant-loop-n
invariant-loop-n l = find (λ n. houses (row (rows_of l.rows) n) l.s) (below l.n) ≡ None
