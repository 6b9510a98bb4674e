use Rattle.std.proofs.Common.{◌≡◌, length, map, take, vec_len, vec_capacity}
use Rattle.session_tasks.specs.pool.Hands.{taken_in}
use Rattle.session_tasks.specs.pool.Taken.{numbers_in}
use Rattle.session_tasks.proofs.pool.order.sessions_in.Given as goal

abbrev pub invariant-loop-hand : goal.invariant-loop-hand
invariant-loop-hand g l = record {
  len : vec_len l.lists ≡ l.hand-index;
  room : vec_capacity l.lists ≡ length l.hands;
  lists : numbers_in l.lists.items ≡ map taken_in (take l.hand-index l.hands);
}
