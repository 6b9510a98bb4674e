use Rattle.std.proofs.Common.{◌≡◌, ◌++◌, drop}
use Rattle.serial_order.specs.EndState.{left}
use Rattle.serial_order.specs.Tables.{merged_rows}
use Rattle.serial_order.proofs.end_state.EndState.rows_of.Given as goal

abbrev pub invariant-loop-cell : goal.invariant-loop-cell
invariant-loop-cell g l = l.rows.items ++ merged_rows (left l.self) l.starting (drop l.cell-index l.cells) ≡ merged_rows (left l.self) l.self.rows.now l.cells
