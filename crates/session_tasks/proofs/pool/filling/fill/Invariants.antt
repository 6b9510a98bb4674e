use Rattle.std.proofs.Common.{◌≡◌, ◌-◌, ◌≤◌, true, [], All, map, length, drop}
use Rattle.std.specs.VecDeque.{deque_len}
use Rattle.crossbeam_queue.specs.Passes.{view, IsPassOf}
use Rattle.session_tasks.specs.pool.Tallies.{tally}
use Rattle.session_tasks.specs.pool.Waits.{IsUnused, number_at}
use Rattle.session_tasks.proofs.pool.filling.fill.Given as goal

abbrev pub invariant-loop-next : goal.invariant-loop-next
invariant-loop-next g l = record {
  few : deque_len l.waiting ≤ length g.J.Roster.numbers;
  token : IsPassOf l.line l.token;
  knows : view l.token ≡ tally 256 true (length g.J.Roster.numbers - deque_len l.waiting) [];
  left : map number_at l.waiting.items ≡ drop (length g.J.Roster.numbers - deque_len l.waiting) g.J.Roster.numbers;
  fits : All (IsUnused g.J.Roster.hall) l.waiting.items;
}

abbrev pub decreases-loop-next : goal.decreases-loop-next
decreases-loop-next g l = deque_len l.waiting
