use Rattle.std.proofs.Common.{◌≡◌, take, None}
use Rattle.audit_check.specs.Audit.{first_line}
use Rattle.audit_check.specs.Faults.{wrong_after}
use Rattle.audit_check.specs.Keeps.{MarksCommits, KeepsSources}
use Rattle.audit_check.specs.Views.{views}
use Rattle.audit_check.proofs.after.first_early.Given as goal

abbrev pub invariant-loop-i : goal.invariant-loop-i
invariant-loop-i l = record {
  done : MarksCommits l.done.items (views (take l.i l.lines));
  sources : KeepsSources l.sources.items (views (take l.i l.lines));
  none : first_line wrong_after (views (take l.i l.lines)) ≡ None;
}
