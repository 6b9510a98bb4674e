use Rattle.std.proofs.Common.{ap, ◌∙◌}
use Rattle.session_tasks.specs.declared.task.Progress.TheVariants.{Failed}
use Rattle.session_tasks.proofs.TaskStages.{task_spent}
use Rattle.session_tasks.proofs.run.Run.fail.Goals as goal

pub returns-in-PassSpent-clause-cause : goal.returns-in-PassSpent-clause-cause
returns-in-PassSpent-clause-cause g c = task_spent c.args.self.now.hall.now c.args.self.now.scripts.now c.args.task c.requires.task (c.requires.failed ∙ ap Failed c.in-PassSpent.is)
