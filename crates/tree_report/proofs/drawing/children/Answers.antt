use Rattle.std.proofs.Common.{ℕ, ◌<◌, List, [], length, arith, sym, ap, subst}
use Rattle.std.specs.List.{All}
use Rattle.teb_rules.specs.declared.names.Node.{Node}
use Rattle.store_setup.specs.tree.Grown.{node_numbers}
use Rattle.teb_rules.specs.Tree.{below}
use Rattle.line_words.proofs.Counted.{counted_all, counted_more}
use Rattle.tree_report.specs.Drawing.{one_child}
use Rattle.tree_report.proofs.drawing.children.Goals as goal

pub loop-n-init : goal.loop-n-init
unfolding below
loop-n-init c = record {
  nodes = ap (λ (l : List Node). node_numbers l) c.new-nodes.ensures.items;
  within = subst (All (λ (m : Node). m.0 < length c.args.tree.now.rows)) (sym c.new-nodes.ensures.items) (λ k d low. absurd (omega (arith, low)));
}

pub loop-n-preserved : goal.loop-n-preserved
loop-n-preserved c = record {
  nodes = counted_more (one_child c.args.tree.now.rows c.args.node.0) c.loop-n.n [] (node_numbers c.loop-n.nodes.items) (node_numbers c.push_child.new.nodes.items) c.loop-n.invariant.nodes
      c.in_ok-push_child.ensures.nodes;
  within = c.in_ok-push_child.ensures.within c.loop-n.invariant.within;
}

pub returns-clause-nodes : goal.returns-clause-nodes
returns-clause-nodes c =
    counted_all (one_child c.args.tree.now.rows c.args.node.0) c.loop-n.n _ [] (node_numbers c.loop-n.nodes.items) (omega (arith, c.loop-n-test.false, c.loop-n.auto.n-end, c.len-n-end.ensures.count))
    c.loop-n.invariant.nodes
