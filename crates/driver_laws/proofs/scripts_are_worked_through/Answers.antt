use Rattle.driver_laws.proofs.Links.{works_through}
use Rattle.driver_laws.proofs.scripts_are_worked_through.Goals as goal

pub returns : goal.returns
returns c = works_through
