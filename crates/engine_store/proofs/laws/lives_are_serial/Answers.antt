use Rattle.engine_store.proofs.WholeLife.{lives_are_serial}
use Rattle.engine_store.proofs.laws.lives_are_serial.Goals as goal

pub returns : goal.returns
returns c = lives_are_serial
