use Rattle.serial_order.proofs.OfEngines.{versions_ordered}
use Rattle.serial_order.proofs.laws.versions_are_ordered.Goals as goal

pub returns : goal.returns
returns c = versions_ordered
