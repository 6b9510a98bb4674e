use Rattle.driver_laws.proofs.Links.{asks_few}
use Rattle.driver_laws.proofs.drivers_ask_few.Goals as goal

pub returns : goal.returns
returns c = asks_few
