use Rattle.batch_book.specs.Settled.{AreClosed}
use Rattle.batch_book.proofs.settled.settled_from.Given as goal

abbrev pub invariant-loop-i : goal.invariant-loop-i
invariant-loop-i l = AreClosed l.joined l.batches l.at l.i
