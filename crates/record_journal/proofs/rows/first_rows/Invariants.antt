use Rattle.std.proofs.Common.{◌≡◌, ◌≤◌, drop, length}
use Rattle.std.specs.BTreeMap.{get}
use Rattle.teb_rules.specs.declared.names.Cell.{Cell}
use Rattle.teb_rules.specs.names.Rows.{row_of}
use Rattle.record_journal.proofs.Tables.{cell_cmp}
use Rattle.record_journal.proofs.rows.first_rows.Given as goal

abbrev pub invariant-loop-i : goal.invariant-loop-i
invariant-loop-i l = record { within : l.i ≤ length l.start; rows : (x : Cell) → get cell_cmp l.rows x ≡ row_of (drop l.i l.start) x }

abbrev pub decreases-loop-i : goal.decreases-loop-i
decreases-loop-i l = l.i
