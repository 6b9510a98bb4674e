use Rattle.std.proofs.Common.{◌≡◌, take, None}
use Rattle.audit_check.specs.Audit.{first_line}
use Rattle.audit_check.specs.Faults.{wrong_row}
use Rattle.audit_check.specs.Keeps.{SeesRows}
use Rattle.audit_check.specs.Views.{views}
use Rattle.audit_check.proofs.rows.see_rows.Given as goal

abbrev pub invariant-loop-i : goal.invariant-loop-i
invariant-loop-i l = record {
  seen : SeesRows l.seen.keys (views (take l.i l.lines));
  none : first_line (wrong_row (views l.lines)) (views (take l.i l.lines)) ≡ None;
}
