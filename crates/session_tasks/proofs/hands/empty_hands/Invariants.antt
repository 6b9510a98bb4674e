use Rattle.std.proofs.Common.{◌≡◌, [], All, vec_len, vec_capacity}
use Rattle.session_tasks.proofs.hands.empty_hands.Given as goal

abbrev pub invariant-loop : goal.invariant-loop
invariant-loop g l = record {
  len : vec_len l.hands ≡ l.counter;
  room : vec_capacity l.hands ≡ l.workers;
  empty : All (λ hand. hand.items ≡ []) l.hands.items;
}
