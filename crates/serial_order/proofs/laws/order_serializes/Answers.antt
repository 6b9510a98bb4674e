use Rattle.serial_order.proofs.OfEngines.{order_serializes}
use Rattle.serial_order.proofs.laws.order_serializes.Goals as goal

pub returns : goal.returns
returns c = order_serializes
