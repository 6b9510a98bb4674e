use Rattle.std.proofs.Common.{◌∙◌, ap, Vec}
use Rattle.std.specs.declared.alloc.Global.{Global}
use Rattle.std.specs.BTreeMap.{get}
use Rattle.teb_rules.specs.names.Rows.{row_of}
use Rattle.record_journal.specs.declared.change.Change.{Change}
use Rattle.record_journal.specs.Format.{Record}
use Rattle.record_journal.specs.Journal.{after_changes}
use Rattle.record_journal.proofs.Tables.{cell_cmp, record_more}
use Rattle.record_journal.proofs.rows.rows_after.Goals as goal

pub loop-record-preserved : goal.loop-record-preserved
loop-record-preserved c =
    let l = c.loop-record in
    let before = get cell_cmp l.rows in
    record_more c.args.records.now l.record-index c.record-item.result (row_of c.args.start.now) before (get cell_cmp c.put_rows.new.rows) c.loop-record-test.true
    (λ x. c.in_ok-put_rows.ensures x ∙ ap (λ (r : Record). after_changes r before x) c.deref.ensures.value ∙ ap (λ (v : Vec Change Global). after_changes v.items before x) c.record-item.is)
    l.invariant
