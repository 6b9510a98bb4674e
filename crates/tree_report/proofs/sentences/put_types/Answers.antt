use Rattle.std.proofs.Common.{arith}
use Rattle.line_words.proofs.Counted.{counted_all, counted_more, counted_none}
use Rattle.tree_report.specs.Guarantees.{type_line}
use Rattle.tree_report.proofs.sentences.put_types.Goals as goal

pub loop-k-init : goal.loop-k-init
loop-k-init c = counted_none (type_line c.args.types.now c.args.tree.now.rows) c.args.out.now.items

pub loop-k-preserved : goal.loop-k-preserved
loop-k-preserved c = counted_more (type_line c.args.types.now c.args.tree.now.rows) c.loop-k.k c.args.out.now.items c.loop-k.out.items c.put_type.new.out.items c.loop-k.invariant
    c.in_ok-put_type.ensures

pub returns : goal.returns
returns c = counted_all (type_line c.args.types.now c.args.tree.now.rows) c.loop-k.k _ c.args.out.now.items c.loop-k.out.items
    (omega (arith, c.loop-k-test.false, c.loop-k.auto.k-end, c.len-k-end.ensures.count)) c.loop-k.invariant
