use Rattle.std.proofs.Common.{◌≡◌, ℕ, take}
use Rattle.audit_check.specs.Keeps.{own_from}
use Rattle.audit_check.specs.Marks.{list_at}
use Rattle.audit_check.proofs.reads.own_lines.Given as goal

abbrev pub invariant-loop-i : goal.invariant-loop-i
invariant-loop-i l = (t : ℕ) → list_at l.own.items t ≡ own_from t 0 (take l.i l.lines)
