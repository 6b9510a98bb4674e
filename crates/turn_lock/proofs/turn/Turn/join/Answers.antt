use Rattle.std.proofs.Common.{arith, ap, ◌∙◌, sym}
use Rattle.turn_lock.proofs.Lists.{nil_left}
use Rattle.turn_lock.proofs.Joining.{joins}
use Rattle.turn_lock.proofs.turn.Turn.join.Goals as goal

pub join_seat-requires : goal.join_seat-requires
join_seat-requires g c = let sized = c.args.self.now.sized.0 in let mine = c.requires.outside.0 in let theirs = c.requires.outside.1 in
    (c.requires.seats.0, c.requires.seats.1, theirs.0, omega arith, joins _ _ _ _ _ _ _ _ _ _ _ mine.1 mine.2 theirs.1 theirs.2 c.args.seat.now.live c.args.other.live)

pub invariant_of-seat : goal.invariant_of-seat
invariant_of-seat g c = record { live = λ e. c.args.seat.now.live (nil_left c.args.seat.now.seat.me.0.owners c.args.other.seat.me.0.owners (ap (λ m. m.0.owners) (sym c.join_seat.ensures.2) ∙ e)) }
