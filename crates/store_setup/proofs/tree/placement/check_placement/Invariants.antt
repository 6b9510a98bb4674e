use Rattle.std.proofs.Common.{◌≡◌, None}
use Rattle.store_setup.specs.tree.Grown.{rows_of}
use Rattle.teb_rules.specs.Accepted.{first_at, placement_fault}
use Rattle.teb_rules.specs.Tree.{below}
use Rattle.store_setup.proofs.tree.placement.check_placement.Given as goal

abbrev pub invariant-loop-n : goal.invariant-loop-n
invariant-loop-n l = first_at (placement_fault (rows_of l.rows)) (below l.n) ≡ None
