use Rattle.guarantees.proofs.Laws.{is_strict}
use Rattle.guarantees.proofs.serial_order_keeps_time.Goals as goal

pub returns : goal.returns
returns c = is_strict
