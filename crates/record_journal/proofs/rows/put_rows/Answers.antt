use Rattle.std.specs.BTreeMap.{get}
use Rattle.record_journal.proofs.Tables.{cell_cmp, change_more}
use Rattle.record_journal.proofs.rows.put_rows.Goals as goal

pub loop-change-preserved : goal.loop-change-preserved
loop-change-preserved c x =
    change_more c.args.changes.now c.loop-change.change-index _ (get cell_cmp c.args.rows.now) (get cell_cmp c.loop-change.rows) (get cell_cmp c.put_row.new.rows) x c.loop-change-test.true
    (c.in_ok-put_row.ensures x) (c.loop-change.invariant x)
