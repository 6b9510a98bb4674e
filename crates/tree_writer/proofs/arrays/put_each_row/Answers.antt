use Rattle.tree_writer.proofs.Items.{row_more}
use Rattle.tree_writer.specs.Written.{row_item}
use Rattle.tree_writer.proofs.arrays.put_each_row.Goals as goal

pub loop-row-preserved : goal.loop-row-preserved
loop-row-preserved c = row_more (row_item c.args.tables.now) c.args.rows.now c.loop-row.row-index _ _ _ _ c.loop-row-test.true c.in_ok-put_row.ensures c.loop-row.invariant
