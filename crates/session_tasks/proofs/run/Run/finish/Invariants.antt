use Rattle.std.proofs.Common.{◌≡◌, suc, ◌-◌, ◌≤◌, All, map, vec_len, vec_capacity}
use Rattle.std.specs.VecDeque.{deque_len}
use Rattle.teb_rules.specs.history.Phases.{numbers}
use Rattle.turn_lock.specs.Counts.{count_from}
use Rattle.session_server.specs.Passes.{number_of}
use Rattle.session_tasks.specs.Errors.{NoneFailed}
use Rattle.session_tasks.specs.Tasks.{AreTasks, IsTask}
use Rattle.session_tasks.specs.Served.{IsServed}
use Rattle.session_tasks.proofs.run.Run.finish.Given as goal
use Rattle.teb_rules.specs.declared.names.TheConstants.{SESSIONS}

abbrev pub invariant-loop-task : goal.invariant-loop-task
invariant-loop-task g l = record {
  few : vec_len l.passes ≤ SESSIONS;
  room : vec_capacity l.passes ≡ SESSIONS;
  sessions : map number_of l.passes.items ≡ numbers (vec_len l.passes);
  served : All (IsServed l.self.hall.now l.self.scripts.now) l.passes.items;
  none : NoneFailed (IsTask l.self.hall.now l.self.scripts.now) (vec_len l.passes);
  tasks : AreTasks l.self.hall.now l.self.scripts.now (count_from (suc (vec_len l.passes)) (SESSIONS - vec_len l.passes)) l.tasks.items;
}

abbrev pub decreases-loop-task : goal.decreases-loop-task
decreases-loop-task g l = deque_len l.tasks
