use Rattle.std.proofs.Common.{◌≡◌, map, vec_len}
use Rattle.session_tasks.specs.Tasks.{AreTasks, number_in}
use Rattle.session_tasks.proofs.threads.worker.serve_hand.Given as goal

abbrev pub invariant-loop-i : goal.invariant-loop-i
invariant-loop-i g l = (vec_len l.hand ≡ vec_len l.fn.hand) × AreTasks l.run.hall.now l.run.scripts.now (map number_in l.fn.hand.items) l.hand.items
