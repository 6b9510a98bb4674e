use Rattle.std.proofs.Common.{◌≡◌, ◌++◌}
use Rattle.std.specs.List.{flat_map}
use Rattle.teb_rules.specs.Tree.{below}
use Rattle.tree_writer.specs.Written.{node_text}
use Rattle.tree_writer.proofs.nodes.put_nodes.Given as goal

abbrev pub invariant-loop-n : goal.invariant-loop-n
invariant-loop-n l = l.out.items ≡ l.fn.out.items ++ flat_map (node_text l.names l.tree.rows) (below l.n)
