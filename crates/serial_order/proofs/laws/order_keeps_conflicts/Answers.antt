use Rattle.serial_order.proofs.OfEngines.{conflicts_kept}
use Rattle.serial_order.proofs.laws.order_keeps_conflicts.Goals as goal

pub returns : goal.returns
returns c = conflicts_kept
