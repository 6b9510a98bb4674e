use Rattle.std.proofs.Common.{◌≡◌, ℕ, ◌+◌, ◌-◌, length, vec_len}
use Rattle.turn_lock.specs.Counts.{total}
use Rattle.crossbeam_queue.specs.Passes.{view, IsPassOf}
use Rattle.session_tasks.specs.pool.Hands.{IsFirst, taken_in}
use Rattle.session_tasks.specs.pool.Tallies.{IsWhole}
use Rattle.session_tasks.proofs.pool.rest.take_rest.Given as goal
use Rattle.teb_rules.specs.declared.names.TheConstants.{SESSIONS}

abbrev pub invariant-loop-next : goal.invariant-loop-next
invariant-loop-next g l = record {
  token : IsPassOf l.line l.token;
  whole : IsWhole (length g.J.Roster.numbers) (view l.token);
  first : IsFirst l.run.hall.now l.run.scripts.now l.hand (view l.token);
  kept : (weight : ℕ → ℕ) → total weight (taken_in l.hand) + total weight (view l.fn.token).taken ≡ total weight (taken_in l.fn.hand) + total weight (view l.token).taken;
}

abbrev pub decreases-loop-next : goal.decreases-loop-next
decreases-loop-next g l = SESSIONS - vec_len l.hand
