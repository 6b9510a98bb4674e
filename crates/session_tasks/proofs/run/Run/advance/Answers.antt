use Rattle.session_tasks.proofs.Placing.{within_any}
use Rattle.session_tasks.proofs.run.Run.advance.Goals as goal

pub lines_at-lines-requires : goal.lines_at-lines-requires
lines_at-lines-requires g c = within_any c.args.self.now.scripts.now c.args.task.now.pass.session.0 c.args.task.now.place c.requires.place
