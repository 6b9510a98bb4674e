use Rattle.std.proofs.Common.{◌≡◌, take}
use Rattle.std.specs.BTreeMap.{get}
use Rattle.teb_rules.specs.declared.names.Cell.{Cell}
use Rattle.teb_rules.specs.names.Rows.{row_of}
use Rattle.record_journal.specs.Journal.{after_records}
use Rattle.record_journal.specs.Views.{record_lists}
use Rattle.record_journal.proofs.Tables.{cell_cmp}
use Rattle.record_journal.proofs.rows.rows_after.Given as goal

abbrev pub invariant-loop-record : goal.invariant-loop-record
invariant-loop-record l = (x : Cell) → get cell_cmp l.rows x ≡ after_records (record_lists (take l.record-index l.records)) (row_of l.start) x
