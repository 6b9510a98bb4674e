-- What follows a line.
use Rattle.shell_runner.specs.declared.running.Flow.{Flow}
use Rattle.shell_runner.specs.declared.running.Flow.TheVariants as flow
use Rattle.shell_runner.specs.declared.step.After.{After}
use Rattle.shell_runner.specs.declared.step.After.TheVariants.{Next, Bad, Quit}

abbrev pub after_of : Flow → After
after_of flow.Next = Next
after_of flow.Bad = Bad
after_of flow.End = Quit
