use Rattle.std.proofs.Common.{◌≡◌, length, map, take, vec_len, vec_capacity}
use Rattle.session_tasks.specs.Tasks.{number_in}
use Rattle.session_tasks.proofs.pool.order.sessions_of.Given as goal

abbrev pub invariant-loop-task : goal.invariant-loop-task
invariant-loop-task g l = record {
  len : vec_len l.sessions ≡ l.task-index;
  room : vec_capacity l.sessions ≡ length l.tasks;
  sessions : map (λ s. s.0) l.sessions.items ≡ map number_in (take l.task-index l.tasks);
}
