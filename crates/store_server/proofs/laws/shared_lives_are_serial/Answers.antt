use Rattle.store_server.proofs.SharedLives.{shared_lives}
use Rattle.store_server.proofs.laws.shared_lives_are_serial.Goals as goal

pub returns : goal.returns
returns c = shared_lives
