use Rattle.std.proofs.Common.{◌≡◌, map}
use Rattle.store_setup.specs.tree.Grown.{rows_of}
use Rattle.store_setup.specs.tree.Homes.{part_lists, part_paths}
use Rattle.teb_rules.specs.Tree.{below}
use Rattle.store_setup.proofs.tree.homes.all_paths.Given as goal

abbrev pub invariant-loop-k : goal.invariant-loop-k
invariant-loop-k l = map part_lists l.paths.items ≡ map (λ k. part_paths (rows_of l.rows) k) (below l.k)
