use Rattle.std.proofs.Common.{◌≡◌, map}
use Rattle.store_setup.specs.tree.Grown.{node_numbers, rows_of}
use Rattle.store_setup.specs.tree.Homes.{spot_of}
use Rattle.teb_rules.specs.Tree.{below, path}
use Rattle.store_setup.proofs.tree.homes.part_paths.Given as goal

abbrev pub invariant-loop-part : goal.invariant-loop-part
invariant-loop-part l = map node_numbers l.paths.items ≡ map (λ i. path (rows_of l.rows) (spot_of l.k.0 i)) (below l.part)
