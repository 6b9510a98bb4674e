use Rattle.driver_laws.proofs.Links.{keeps_to_scripts}
use Rattle.driver_laws.proofs.sessions_keep_to_scripts.Goals as goal

pub returns : goal.returns
returns c = keeps_to_scripts
