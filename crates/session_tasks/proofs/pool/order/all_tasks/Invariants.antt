use Rattle.std.proofs.Common.{◌≡◌, ◌++◌}
use Rattle.std.specs.List.{flat_map}
use Rattle.std.specs.VecDeque.{deque_len}
use Rattle.session_tasks.proofs.pool.order.all_tasks.Given as goal

abbrev pub invariant-loop-hand : goal.invariant-loop-hand
invariant-loop-hand g l = l.tasks.items ++ flat_map (λ hand. hand.items) l.hands.items ≡ l.fn.tasks.items ++ flat_map (λ hand. hand.items) l.fn.hands.items

abbrev pub decreases-loop-hand : goal.decreases-loop-hand
decreases-loop-hand g l = deque_len l.hands
