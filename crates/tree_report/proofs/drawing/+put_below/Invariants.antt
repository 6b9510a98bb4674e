use Rattle.std.proofs.Common.{◌≡◌, ◌++◌, ◌-◌, drop}
use Rattle.store_setup.specs.tree.Grown.{node_numbers}
use Rattle.tree_report.specs.Drawing.{branches, drawn}
use Rattle.tree_report.proofs.drawing.+put_below.Given as goal

abbrev pub decreases-put_below : goal.decreases-put_below
decreases-put_below l = l.levels

abbrev pub invariant-loop-i : goal.invariant-loop-i
invariant-loop-i l =
    l.out.items ++ branches l.names l.tree.rows (drawn l.names l.tree.rows (l.levels - 1)) l.prefix (drop l.i (node_numbers l.nodes.items))
    ≡ l.fn.out.items ++ branches l.names l.tree.rows (drawn l.names l.tree.rows (l.levels - 1)) l.prefix (node_numbers l.nodes.items)
