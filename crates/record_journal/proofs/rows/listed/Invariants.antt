use Rattle.std.proofs.Common.{◌≡◌, ◌++◌}
use Rattle.record_journal.proofs.rows.listed.Given as goal

abbrev pub invariant-loop-cell : goal.invariant-loop-cell
invariant-loop-cell l = l.list.items ++ l.cell-iterator ≡ l.rows.entries
