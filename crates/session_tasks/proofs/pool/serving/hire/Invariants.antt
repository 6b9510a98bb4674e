use Rattle.std.proofs.Common.{◌≡◌, ◌-◌, true, [], All, length, vec_len, vec_capacity}
use Rattle.crossbeam_queue.specs.Passes.{view, IsPassOf}
use Rattle.session_tasks.specs.pool.Tallies.{tally}
use Rattle.session_tasks.specs.pool.Workers.{IsHired}
use Rattle.session_tasks.proofs.pool.serving.hire.Given as goal

abbrev pub invariant-loop : goal.invariant-loop
invariant-loop g l = record {
  len : vec_len l.hired ≡ l.counter;
  room : vec_capacity l.hired ≡ l.workers;
  token : IsPassOf l.line l.token;
  knows : view l.token ≡ tally (256 - l.counter) true (length g.J.Roster.numbers) [];
  workers : All (IsHired l.line) l.hired.items;
}
