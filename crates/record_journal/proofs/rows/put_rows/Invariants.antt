use Rattle.std.proofs.Common.{◌≡◌, take}
use Rattle.std.specs.BTreeMap.{get}
use Rattle.teb_rules.specs.declared.names.Cell.{Cell}
use Rattle.record_journal.specs.Journal.{after_changes}
use Rattle.record_journal.proofs.Tables.{cell_cmp}
use Rattle.record_journal.proofs.rows.put_rows.Given as goal

abbrev pub invariant-loop-change : goal.invariant-loop-change
invariant-loop-change l = (x : Cell) → get cell_cmp l.rows x ≡ after_changes (take l.change-index l.changes) (get cell_cmp l.fn.rows) x
