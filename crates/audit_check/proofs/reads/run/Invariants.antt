use Rattle.std.proofs.Common.{◌≡◌, ℕ, ◌≤◌, drop, length}
use Rattle.audit_check.specs.Keeps.{own_from, HoldsTable, RunsTo}
use Rattle.audit_check.specs.Tables.{Values}
use Rattle.audit_check.proofs.reads.run.Given as goal

abbrev pub invariant-loop-at : goal.invariant-loop-at
invariant-loop-at l = record {
  all : length l.replay.wrong.items ≡ length l.lines;
  to : ℕ;
  within : to ≤ length l.lines;
  rest : own_from l.txn to (drop to l.lines) ≡ drop l.at-index l.at-items;
  runs : (T : Values) → HoldsTable l.initial.replay.table.values.entries T → RunsTo to l.txn l.lines T l.initial.replay.wrong.items l.replay.table.values.entries l.replay.wrong.items;
}
