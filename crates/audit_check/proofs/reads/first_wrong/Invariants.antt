use Rattle.std.proofs.Common.{◌≡◌, take, None}
use Rattle.audit_check.specs.Audit.{first_line}
use Rattle.audit_check.specs.Faults.{wrong_read}
use Rattle.audit_check.specs.Views.{views}
use Rattle.audit_check.proofs.reads.first_wrong.Given as goal

abbrev pub invariant-loop-i : goal.invariant-loop-i
invariant-loop-i l = first_line (wrong_read (views l.lines)) (views (take l.i l.lines)) ≡ None
