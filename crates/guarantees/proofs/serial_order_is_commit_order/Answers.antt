use Rattle.guarantees.proofs.Laws.{is_commit_ordered}
use Rattle.guarantees.proofs.serial_order_is_commit_order.Goals as goal

pub returns : goal.returns
returns c = is_commit_ordered
