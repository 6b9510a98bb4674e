use Rattle.driver_laws.proofs.Links.{stops}
use Rattle.driver_laws.proofs.drivers_stop.Goals as goal

pub returns : goal.returns
returns c = stops
