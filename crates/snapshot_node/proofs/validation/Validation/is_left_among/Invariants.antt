use Rattle.snapshot_node.proofs.FirstOf.{NoneBefore}
use Rattle.snapshot_node.proofs.Nearness.{LeftAcross}
use Rattle.snapshot_node.proofs.validation.Validation.is_left_among.Given as goal

abbrev pub invariant-loop-b : goal.invariant-loop-b
invariant-loop-b l = NoneBefore (LeftAcross l.fn.self l.fn.among) (record { 0 = 0 }) l.fn.among l.b-index
