use Rattle.std.proofs.Common.{map}
use Rattle.session_tasks.specs.pool.Waits.{number_at, tells_of}
use Rattle.session_tasks.proofs.pool.run.fill_hands.Given as goal

abbrev pub ghosts-by_queue : goal.ghosts-by_queue
ghosts-by_queue g a = record { numbers = map number_at a.waiting.items; hall = tells_of a.run.now.hall.now }
