use Rattle.std.proofs.Common.{◌≡◌, false}
use Rattle.std.specs.List.{list_any}
use Rattle.store_setup.specs.tree.Grown.{rows_of}
use Rattle.teb_rules.specs.Accepted.{is_homeless}
use Rattle.teb_rules.specs.Tree.{below}
use Rattle.store_setup.proofs.tree.homes.check_homes.Given as goal

abbrev pub invariant-loop-k : goal.invariant-loop-k
invariant-loop-k l = list_any (is_homeless (rows_of l.rows)) (below l.k) ≡ false
