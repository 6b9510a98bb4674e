use Rattle.std.proofs.Common.{◌+◌, arith}
use Rattle.turn_lock.proofs.Peeking.{peeks}
use Rattle.turn_lock.proofs.turn.Turn.look.Goals as goal

pub load-requires : goal.load-requires
load-requires g c = let sized = c.args.self.now.sized.0 in let below = c.requires.note in
    (c.requires.seat, omega arith, peeks _ _ _ _ _ _ _ _ _ _ (c.args.note + 2) (omega arith) (omega arith) c.args.seat.now.live)
