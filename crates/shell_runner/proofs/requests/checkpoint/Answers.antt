use Rattle.shell_runner.proofs.Going.{once}
use Rattle.shell_runner.proofs.requests.checkpoint.Goals as goal

pub returns-in-Err-DiskFault-clause-safe : goal.returns-in-Err-DiskFault-clause-safe
returns-in-Err-DiskFault-clause-safe g c = once g.T.ShellStore.safe c.args.shell c.begin_next_epoch-shell.result.0 c.begin_next_epoch-shell.ensures.safe

pub returns-in-Err-OutOfMemory-clause-safe : goal.returns-in-Err-OutOfMemory-clause-safe
returns-in-Err-OutOfMemory-clause-safe g c = once g.T.ShellStore.safe c.args.shell c.begin_next_epoch-shell.result.0 c.begin_next_epoch-shell.ensures.safe

pub returns-clause-safe : goal.returns-clause-safe
returns-clause-safe g c = once g.T.ShellStore.safe c.args.shell c.begin_next_epoch-shell.result.0 c.begin_next_epoch-shell.ensures.safe
