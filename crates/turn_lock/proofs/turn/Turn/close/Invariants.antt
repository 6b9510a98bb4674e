use Rattle.turn_lock.specs.Seats.{owner_count}
use Rattle.turn_lock.proofs.Closing.{Joined}
use Rattle.turn_lock.proofs.turn.Turn.close.Given as goal

abbrev pub invariant-loop-other : goal.invariant-loop-other
invariant-loop-other g l = Joined g.T.Member l.self (owner_count l.self) l.fn.seats.items l.seats.items l.first

abbrev pub decreases-loop-other : goal.decreases-loop-other
decreases-loop-other g l = goal.left-loop-other g l
