use Rattle.shell_runner.specs.Runs.{state_of}
use Rattle.shell_runner.proofs.Shown.{dump_answered, dump_goes_on}
use Rattle.shell_runner.proofs.step.show.Goals as goal

pub returns-in-Dump-clause-shown : goal.returns-in-Dump-clause-shown
returns-in-Dump-clause-shown g c =
    dump_answered c.args.number (state_of g.T.ShellStore.stored c.args.shell.now) c.args.line _ c.put_dump.result c.in-Dump.is (c.put_dump.ensures c.args.shell.now.epoch c.args.shell.now.waits)

pub returns-in-Dump-clause-goes_on : goal.returns-in-Dump-clause-goes_on
returns-in-Dump-clause-goes_on g c = dump_goes_on c.args.number (state_of g.T.ShellStore.stored c.args.shell.now) _ c.put_dump.result (c.put_dump.ensures c.args.shell.now.epoch c.args.shell.now.waits)
