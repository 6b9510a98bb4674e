use Rattle.snapshot_node.specs.Pivots.{IsMateAmong}
use Rattle.snapshot_node.specs.Validating.{at}
use Rattle.snapshot_node.proofs.FirstOf.{NoneBefore}
use Rattle.snapshot_node.proofs.validation.Validation.first_mate_across.Given as goal

abbrev pub invariant-loop-u : goal.invariant-loop-u
invariant-loop-u l = NoneBefore (at l.fn.self IsMateAmong l.fn.b.0 l.fn.among) (record { 0 = 0 }) l.fn.among l.u-index
