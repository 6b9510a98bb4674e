use Rattle.shell_runner.proofs.Going.{unmoved}
use Rattle.shell_runner.proofs.step.answer.Goals as goal

pub returns-in_default-clause-safe : goal.returns-in_default-clause-safe
returns-in_default-clause-safe g c = unmoved g.T.ShellStore.safe c.args.shell
