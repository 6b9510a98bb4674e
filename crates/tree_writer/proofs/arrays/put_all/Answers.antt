use Rattle.tree_writer.specs.Written.{quoted}
use Rattle.tree_writer.proofs.Items.{item_more}
use Rattle.tree_writer.proofs.arrays.put_all.Goals as goal

pub loop-n-preserved : goal.loop-n-preserved
loop-n-preserved c = item_more quoted c.args.names.now c.loop-n.n c.name.result.now c.loop-n.is_first c.loop-n.out.items c.put_item.new.out.items _ c.name.ensures.name c.in_ok-put_item.ensures
    c.loop-n.invariant
