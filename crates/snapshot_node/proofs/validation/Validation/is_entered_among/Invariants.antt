use Rattle.snapshot_node.proofs.FirstOf.{NoneBefore}
use Rattle.snapshot_node.proofs.Nearness.{EnteredAcross}
use Rattle.snapshot_node.proofs.validation.Validation.is_entered_among.Given as goal

abbrev pub invariant-loop-a : goal.invariant-loop-a
invariant-loop-a l = NoneBefore (EnteredAcross l.fn.self l.fn.among) (record { 0 = 0 }) l.fn.among l.a-index
