use Rattle.std.proofs.Common.{◌≡◌, [], drop, length}
use Rattle.audit_check.specs.Lines.{items_from}
use Rattle.audit_check.specs.Views.{nows, views, KeepsCells}
use Rattle.audit_check.proofs.form.take_parts.Given as goal

abbrev pub invariant-loop-i : goal.invariant-loop-i
invariant-loop-i l = record {
  cells : KeepsCells l.cells.starts.keys l.cells.rows.keys (views l.lines.items);
  count : length (views l.lines.items) ≡ l.i;
  rest : items_from (views l.lines.items) (nows (drop l.i l.parts)) ≡ items_from [] (nows l.parts);
}
