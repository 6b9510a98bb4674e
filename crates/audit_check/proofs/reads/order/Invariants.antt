use Rattle.std.proofs.Common.{◌≡◌, ◌-◌, take, length}
use Rattle.audit_check.specs.Tables.{order_in}
use Rattle.audit_check.specs.Views.{views}
use Rattle.audit_check.proofs.reads.order.Given as goal

abbrev pub invariant-loop-i : goal.invariant-loop-i
invariant-loop-i l = order_in (views (take (length l.lines - l.i) l.lines)) ≡ order_in (views l.lines)
