use Rattle.std.proofs.Common.{◌≡◌, ◌<◌, length}
use Rattle.std.specs.List.{All, flat_map}
use Rattle.store_setup.specs.tree.Grown.{node_numbers}
use Rattle.teb_rules.specs.Tree.{below}
use Rattle.tree_report.specs.Drawing.{one_child}
use Rattle.tree_report.proofs.drawing.children.Given as goal

abbrev pub invariant-loop-n : goal.invariant-loop-n
invariant-loop-n l = record {
  nodes : node_numbers l.nodes.items ≡ flat_map (one_child l.fn.tree.rows l.fn.node.0) (below l.n);
  within : All (λ m. m.0 < length l.fn.tree.rows) l.nodes.items;
}
