use Rattle.std.proofs.Common.{◌≡◌}
use Rattle.session_tasks.specs.Errors.{NoneFailed}
use Rattle.session_tasks.proofs.FirstErrors.{OfTasks}
use Rattle.session_tasks.proofs.run.Run.none_failed.Given as goal

abbrev pub invariant-loop-i : goal.invariant-loop-i
invariant-loop-i g l = record {
  same : l.tasks.items ≡ l.fn.tasks.items;
  none : NoneFailed (OfTasks l.self.hall.now l.self.scripts.now l.fn.tasks.items) l.i;
}
