use Rattle.std.proofs.Common.{◌≡◌, ◌++◌}
use Rattle.std.specs.List.{flat_map}
use Rattle.teb_rules.specs.Tree.{below}
use Rattle.tree_report.specs.Guarantees.{type_line}
use Rattle.tree_report.proofs.sentences.put_types.Given as goal

abbrev pub invariant-loop-k : goal.invariant-loop-k
invariant-loop-k l = l.out.items ≡ l.fn.out.items ++ flat_map (type_line l.types l.tree.rows) (below l.k)
