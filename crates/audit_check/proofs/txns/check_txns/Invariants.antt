use Rattle.std.proofs.Common.{◌≡◌, take, None}
use Rattle.audit_check.specs.Audit.{first_line}
use Rattle.audit_check.specs.Faults.{wrong_txn}
use Rattle.audit_check.specs.Keeps.{KeepsStandings}
use Rattle.audit_check.specs.Views.{views}
use Rattle.audit_check.proofs.txns.check_txns.Given as goal

abbrev pub invariant-loop-i : goal.invariant-loop-i
invariant-loop-i l = record {
  kept : KeepsStandings l.standings.begun l.standings.done.items l.standings.gone.items (views (take l.i l.lines));
  none : first_line wrong_txn (views (take l.i l.lines)) ≡ None;
}
