use Rattle.audit_check.specs.Views.{views}
use Rattle.audit_check.proofs.OrderRules.{order_once}
use Rattle.audit_check.proofs.check_lines.Goals as goal

pub check_reads-requires-clause-once : goal.check_reads-requires-clause-once
check_reads-requires-clause-once c = order_once (views c.args.lines.now) (views c.args.lines.now) c.in_ok-check_order.ensures
