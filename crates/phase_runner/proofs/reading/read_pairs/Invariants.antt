use Rattle.std.proofs.Common.{◌≡◌}
use Rattle.phase_runner.specs.Inputs.{tasks_from}
use Rattle.phase_runner.specs.Parts.{pairs_of, texts}
use Rattle.std.specs.Prelude.{None}
use Rattle.phase_runner.proofs.PairSteps.{from_pair}
use Rattle.phase_runner.proofs.reading.read_pairs.Given as goal

abbrev pub invariant-loop-i : goal.invariant-loop-i
invariant-loop-i l = from_pair l.parts l.i l.tasks.items ≡ tasks_from 1 None (pairs_of (texts l.parts))
