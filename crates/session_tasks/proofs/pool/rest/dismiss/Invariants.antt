use Rattle.std.proofs.Common.{◌≡◌, ℕ, ◌+◌, true, ◌++◌, All, map, length, vec_len, vec_capacity}
use Rattle.std.specs.VecDeque.{deque_len}
use Rattle.turn_lock.specs.Counts.{total}
use Rattle.crossbeam_queue.specs.Passes.{view, IsPassOf}
use Rattle.session_tasks.specs.pool.Hands.{weight_of}
use Rattle.session_tasks.specs.pool.Workers.{HasToken}
use Rattle.session_tasks.proofs.pool.rest.dismiss.Given as goal

abbrev pub invariant-loop-worker : goal.invariant-loop-worker
invariant-loop-worker g l = record {
  len : vec_len l.hands + deque_len l.workers ≡ vec_len l.fn.workers;
  room : vec_capacity l.hands ≡ vec_len l.fn.workers;
  token : IsPassOf l.line l.token;
  parts : (view l.token).parts + deque_len l.workers ≡ 256;
  pushes : (view l.token).pushes ≡ true;
  pushed : (view l.token).pushed ≡ length g.J.Roster.numbers;
  shared : (weight : ℕ → ℕ) → weight_of weight l.hands.items ≡ total weight (view l.token).taken;
  hands : l.hands.items ++ map (λ w. w.hand) l.workers.items ≡ map (λ w. w.hand) l.fn.workers.items;
  workers : All (HasToken l.line) l.workers.items;
}

abbrev pub decreases-loop-worker : goal.decreases-loop-worker
decreases-loop-worker g l = deque_len l.workers
