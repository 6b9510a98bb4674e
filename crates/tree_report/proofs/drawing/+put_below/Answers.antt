use Rattle.std.proofs.Common.{◌-◌, length, take, drop, arith}
use Rattle.std.proofs.lemmas.List.{length-map}
use Rattle.store_setup.specs.tree.Grown.{node_numbers}
use Rattle.tree_report.specs.Drawing.{drawn}
use Rattle.tree_report.proofs.Drawn.{all_drawn, from_on, none_drawn, one_more}
use Rattle.tree_report.proofs.drawing.+put_below.Goals as goal

pub returns-then-levels-eq0 : goal.returns-then-levels-eq0
returns-then-levels-eq0 t c = none_drawn c.args.names.now c.args.tree.now.rows c.args.levels c.args.prefix.now c.args.node.0 c.args.out.now.items c.if-levels-eq0.true

pub loop-i-preserved : goal.loop-i-preserved
loop-i-preserved t c =
    one_more c.args.names.now c.args.tree.now.rows (drawn c.args.names.now c.args.tree.now.rows (c.args.levels - 1)) c.args.prefix.now c.in_ok-nodes.nodes.items c.loop-i.i
    (take (length c.deref.result.now - c.loop-i.i) (drop c.loop-i.i c.deref.result.now)) c.in_ok-drawn.drawn.node.0 c.in_ok-drawn.drawn.stem.items c.deref-in-loop-i.result.now
    c.loop-i.out.items c.put_branch.new.out.items c.put_below.new.out.items _ (from_on c.deref.result.now c.in_ok-nodes.nodes.items c.loop-i.i c.deref.ensures.value) c.in_ok-drawn.ensures
    c.deref-in-loop-i.ensures.value c.in_ok-put_below.ensures c.loop-i.invariant

pub returns : goal.returns
returns t c =
    all_drawn c.args.names.now c.args.tree.now.rows c.args.levels c.args.prefix.now c.args.node.0 (node_numbers c.in_ok-nodes.nodes.items) c.loop-i.i c.args.out.now.items c.loop-i.out.items
    (omega (arith, c.if-levels-eq0.false)) c.in_ok-nodes.ensures.nodes
    (omega (arith, c.loop-i-test.false, length-map c.in_ok-nodes.nodes.items (λ m. m.0), c.len-i-end.ensures)) c.loop-i.invariant
