use Rattle.std.proofs.Common.{◌≡◌, suc, ◌-◌, ◌≤◌, All, map, vec_len}
use Rattle.teb_rules.specs.history.Phases.{numbers}
use Rattle.turn_lock.specs.Counts.{count_from}
use Rattle.session_server.specs.Passes.{IsNew, number_of}
use Rattle.session_tasks.specs.threads.Hands.{AreDealt}
use Rattle.session_tasks.proofs.threads.deal.deal.Given as goal
use Rattle.teb_rules.specs.declared.names.TheConstants.{SESSIONS}

abbrev pub invariant-loop-pass : goal.invariant-loop-pass
invariant-loop-pass g l = record {
  few : vec_len l.passes ≤ SESSIONS;
  sessions : map number_of l.passes.items ≡ numbers (vec_len l.passes);
  new : All (IsNew l.run.hall.now) l.passes.items;
  dealt : AreDealt l.run.hall.now l.run.scripts.now l.workers (count_from (suc (vec_len l.passes)) (SESSIONS - vec_len l.passes)) l.hands.items;
}

abbrev pub decreases-loop-pass : goal.decreases-loop-pass
decreases-loop-pass g l = vec_len l.passes
