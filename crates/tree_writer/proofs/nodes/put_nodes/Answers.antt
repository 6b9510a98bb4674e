use Rattle.std.proofs.Common.{arith}
use Rattle.line_words.proofs.Counted.{counted_all, counted_more, counted_none}
use Rattle.tree_writer.specs.Written.{node_text}
use Rattle.tree_writer.proofs.nodes.put_nodes.Goals as goal

pub loop-n-init : goal.loop-n-init
loop-n-init c = counted_none (node_text c.args.names.now c.args.tree.now.rows) c.args.out.now.items

pub loop-n-preserved : goal.loop-n-preserved
loop-n-preserved c = counted_more (node_text c.args.names.now c.args.tree.now.rows) c.loop-n.n c.args.out.now.items c.loop-n.out.items c.put_node.new.out.items c.loop-n.invariant
    c.in_ok-put_node.ensures

pub returns : goal.returns
returns c = counted_all (node_text c.args.names.now c.args.tree.now.rows) c.loop-n.n _ c.args.out.now.items c.loop-n.out.items
    (omega (arith, c.loop-n-test.false, c.loop-n.auto.n-end, c.len-n-end.ensures.count)) c.loop-n.invariant
