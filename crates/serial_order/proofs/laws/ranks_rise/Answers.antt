use Rattle.serial_order.proofs.OfEngines.{ranks_rise}
use Rattle.serial_order.proofs.laws.ranks_rise.Goals as goal

pub returns : goal.returns
returns c = ranks_rise
