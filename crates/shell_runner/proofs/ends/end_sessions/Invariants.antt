-- Each of the sessions 1 to the current one that held a transaction was ended.
use Rattle.std.proofs.Common.{ℕ, ◌+◌, ◌≡◌, ◌≤◌}
use Rattle.shell_runner.specs.States.{IsReady}
use Rattle.shell_runner.proofs.Ending.{EndsSoFar}
use Rattle.shell_runner.proofs.ends.end_sessions.Given as goal

abbrev pub invariant-loop-number : goal.invariant-loop-number
invariant-loop-number g l = record {
  ready : IsReady l.tree (g.T.ShellStore.stored l.last.store);
  ended : (k : ℕ) × (l.number ≡ k + 1) × EndsSoFar g.T.ShellStore.stored g.T.ShellStore.safe l.fn.shell k l.last (g.K.Sink.written l.fn.out) (g.K.Sink.written l.out);
  writes : g.K.Sink.faults l.fn.out ≤ g.K.Sink.faults l.out;
}
