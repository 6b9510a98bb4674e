use Rattle.std.specs.VecDeque.{deque_len}
use Rattle.phase_runner.proofs.InTurn.{MayGoOn}
use Rattle.phase_runner.proofs.run.reports.Given as goal

abbrev pub invariant-loop-task : goal.invariant-loop-task
invariant-loop-task l = MayGoOn l.fn.tasks.items l.tasks.items l.phases l.text.items

abbrev pub decreases-loop-task : goal.decreases-loop-task
decreases-loop-task l = deque_len l.tasks
