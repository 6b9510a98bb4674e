use Rattle.std.proofs.Common.{◌≡◌, take}
use Rattle.abort_cascade.specs.Rounds.{round_of}
use Rattle.abort_cascade.proofs.cascades.round.Given as goal

abbrev pub invariant-loop-u : goal.invariant-loop-u
invariant-loop-u l = l.next ≡ round_of l.book.lists l.t.0 l.fell (take l.u-index l.u-items)
