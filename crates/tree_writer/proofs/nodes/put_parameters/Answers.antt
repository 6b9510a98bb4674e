use Rattle.store_setup.specs.tree.Grown.{row_of}
use Rattle.tree_writer.proofs.Appended.{three_texts}
use Rattle.tree_writer.specs.Written.{batch_setting, order_setting, part_settings}
use Rattle.tree_writer.proofs.nodes.put_parameters.Goals as goal

pub returns : goal.returns
returns c = three_texts c.put_part.result c.args.out.now.items c.put_batch.new.out.items c.put_order.new.out.items c.put_part.new.out.items (batch_setting (row_of c.args.row.now))
    (order_setting c.args.row.now.ordered) (part_settings c.args.row.now.part c.args.row.now.of)
    c.in_ok-put_batch.ensures c.in_ok-put_order.ensures c.put_part.ensures
