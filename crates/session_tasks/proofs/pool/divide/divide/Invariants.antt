use Rattle.std.proofs.Common.{◌≡◌, ◌+◌, vec_len, vec_capacity}
use Rattle.std.specs.VecDeque.{deque_len, deque_capacity}
use Rattle.session_tasks.proofs.lemmas.pool.Dividing.{IsDivided}
use Rattle.session_tasks.proofs.pool.divide.divide.Given as goal
use Rattle.teb_rules.specs.declared.names.TheConstants.{SESSIONS}

abbrev pub invariant-loop-pass : goal.invariant-loop-pass
invariant-loop-pass g l = record {
  divided : IsDivided l.run.hall.now l.run.scripts.now (vec_len l.passes) l.passes.items l.waiting.items l.idle.items;
  count : deque_len l.waiting + vec_len l.idle + vec_len l.passes ≡ SESSIONS;
  waiting_room : deque_capacity l.waiting ≡ SESSIONS;
  idle_room : vec_capacity l.idle ≡ SESSIONS;
}

abbrev pub decreases-loop-pass : goal.decreases-loop-pass
decreases-loop-pass g l = vec_len l.passes
