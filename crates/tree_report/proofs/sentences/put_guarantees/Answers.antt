use Rattle.tree_report.proofs.Told.{told}
use Rattle.tree_report.proofs.sentences.put_guarantees.Goals as goal

pub returns : goal.returns
returns c = told c.args.types.now c.args.tree.now.rows c.is_strict.result c.commits_in_order.result c.has_no_cascades.result c.args.out.now.items c.put_always.new.out.items c.put_shape.new.out.items
    c.put_types.new.out.items c.put_line.new.out.items c.put_line.result
    c.is_strict.ensures.condition c.commits_in_order.ensures.condition c.has_no_cascades.ensures.condition c.requires c.in_ok-put_always.ensures c.in_ok-put_shape.ensures c.in_ok-put_types.ensures
    c.put_line.ensures
