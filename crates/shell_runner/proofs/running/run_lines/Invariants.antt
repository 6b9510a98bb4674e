-- The steps so far lead to the current state, and no fault is reported that did not occur.
use Rattle.std.proofs.Common.{◌≡◌, ℕ, ◌+◌, ◌≤◌}
use Rattle.line_reader.specs.Lines.{ahead}
use Rattle.shell_runner.specs.States.{IsReady}
use Rattle.shell_runner.specs.Runs.{HasRun}
use Rattle.shell_runner.proofs.running.run_lines.Given as goal

abbrev pub invariant-loop-number : goal.invariant-loop-number
invariant-loop-number g l = record {
  ready : IsReady l.tree (g.T.ShellStore.stored l.last.store);
  run : (n : ℕ) × (l.number ≡ n + 1) × HasRun g.T.ShellStore.stored g.T.ShellStore.safe l.fn.shell (g.S.Source.left l.fn.input) (g.K.Sink.written l.fn.out) n l.any_bad l.last
      (ahead l.reader (g.S.Source.left l.input)) (g.K.Sink.written l.out);
  reads : g.S.Source.faults l.input ≡ g.S.Source.faults l.fn.input;
  writes : g.K.Sink.faults l.fn.out ≤ g.K.Sink.faults l.out;
}
