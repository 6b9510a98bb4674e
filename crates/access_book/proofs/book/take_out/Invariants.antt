use Rattle.std.proofs.Common.{◌≡◌, ◌+◌, drop}
use Rattle.access_book.specs.Places.{reads_here, puts_here, puts_held}
use Rattle.access_book.proofs.Filing.{IsTaking}
use Rattle.access_book.proofs.book.take_out.Given as goal

abbrev pub invariant-loop-touch : goal.invariant-loop-touch
invariant-loop-touch l = IsTaking l.t.0 reads_here l.initial.readers l.readers l.touches (drop l.touch-index l.touches) × IsTaking l.t.0 puts_here l.initial.writers l.writers l.touches
    (drop l.touch-index l.touches)
    × (l.puts + puts_held (drop l.touch-index l.touches) ≡ puts_held l.touches)
