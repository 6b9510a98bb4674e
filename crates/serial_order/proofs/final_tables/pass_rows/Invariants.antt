use Rattle.std.proofs.Common.{◌≡◌, ◌++◌, length}
use Rattle.serial_order.specs.Tables.{rows_before, rows_behind}
use Rattle.serial_order.proofs.final_tables.pass_rows.Given as goal

abbrev pub invariant-loop-left : goal.invariant-loop-left
invariant-loop-left l = record {
  passed : l.rows.items ++ rows_before l.cell l.left ≡ l.fn.rows.items ++ rows_before l.cell l.starting;
  behind : rows_behind l.cell l.left ≡ rows_behind l.cell l.starting;
}

abbrev pub decreases-loop-left : goal.decreases-loop-left
decreases-loop-left l = length l.left
