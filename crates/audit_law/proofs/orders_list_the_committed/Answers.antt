use Rattle.audit_law.proofs.Formed.{order_lists}
use Rattle.audit_law.proofs.orders_list_the_committed.Goals as goal

pub returns : goal.returns
returns c = order_lists
