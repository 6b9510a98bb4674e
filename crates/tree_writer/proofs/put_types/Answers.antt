use Rattle.std.proofs.Common.{arith}
use Rattle.line_words.proofs.Counted.{counted_all, counted_more, counted_none}
use Rattle.tree_writer.specs.Written.{type_text}
use Rattle.tree_writer.proofs.put_types.Goals as goal

pub loop-k-init : goal.loop-k-init
loop-k-init c = counted_none (type_text c.args.names.now c.args.profiles.now) c.args.out.now.items

pub loop-k-preserved : goal.loop-k-preserved
loop-k-preserved c = counted_more (type_text c.args.names.now c.args.profiles.now) c.loop-k.k c.args.out.now.items c.loop-k.out.items c.put_type.new.out.items c.loop-k.invariant
    c.in_ok-put_type.ensures

pub returns : goal.returns
returns c = counted_all (type_text c.args.names.now c.args.profiles.now) c.loop-k.k _ c.args.out.now.items c.loop-k.out.items
    (omega (arith, c.loop-k-test.false, c.loop-k.auto.k-end, c.len-k-end.ensures.count)) c.loop-k.invariant
