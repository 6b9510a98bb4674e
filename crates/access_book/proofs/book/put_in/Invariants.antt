use Rattle.std.proofs.Common.{drop}
use Rattle.access_book.proofs.Filing.{IsFiling}
use Rattle.access_book.proofs.book.put_in.Given as goal

abbrev pub invariant-loop-touch : goal.invariant-loop-touch
invariant-loop-touch l = IsFiling l.t.0 l.initial.committed l.committed l.touches (drop l.touch-index l.touches) l.puts
