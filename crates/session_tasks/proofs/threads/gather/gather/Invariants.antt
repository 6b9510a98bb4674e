use Rattle.std.proofs.Common.{◌≡◌, suc, ◌-◌, vec_len, vec_capacity}
use Rattle.teb_rules.specs.history.Phases.{numbers}
use Rattle.turn_lock.specs.Counts.{count_from}
use Rattle.session_tasks.specs.Tasks.{AreTasks}
use Rattle.session_tasks.specs.threads.Hands.{AreDealt}
use Rattle.session_tasks.proofs.threads.gather.gather.Given as goal
use Rattle.teb_rules.specs.declared.names.TheConstants.{SESSIONS}

abbrev pub invariant-loop-passed : goal.invariant-loop-passed
invariant-loop-passed g l = record {
  len : vec_len l.tasks ≡ l.passed;
  room : vec_capacity l.tasks ≡ SESSIONS;
  tasks : AreTasks l.run.hall.now l.run.scripts.now (numbers l.passed) l.tasks.items;
  count : vec_len l.hands ≡ vec_len l.fn.hands;
  dealt : AreDealt l.run.hall.now l.run.scripts.now (vec_len l.fn.hands) (count_from (suc l.passed) (SESSIONS - l.passed)) l.hands.items;
}
