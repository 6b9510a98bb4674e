use Rattle.std.proofs.Common.{ap}
use Rattle.teb_rules.specs.declared.names.Session.{Session}
use Rattle.session_tasks.proofs.TaskStages.{task_served}
use Rattle.session_tasks.proofs.run.Run.finish_task.Goals as goal

pub returns-in-Through-clause-served : goal.returns-in-Through-clause-served
returns-in-Through-clause-served g c = task_served c.args.self.now.hall.now c.args.self.now.scripts.now c.advance.new.task c.requires.scripts c.advance.ensures.task c.in-Through.is

pub returns-in-Failed-clause-failed : goal.returns-in-Failed-clause-failed
returns-in-Failed-clause-failed g c = record {
  task = c.advance.new.task;
  is = c.advance.ensures.task;
  session = ap (λ (s : Session). s.0) c.advance.ensures.session;
  error = c.in-Failed.error;
  failed = c.in-Failed.is;
  told = c.fail.ensures.error;
}
