use Rattle.std.proofs.Common.{◌≡◌, ap, ◌∙◌, ℕ, ◌+◌, ◌-◌, get_or, arith}
use Rattle.turn_lock.proofs.Publishing.{publishes}
use Rattle.turn_lock.proofs.turn.Turn.publish.Goals as goal

back : (n : ℕ) → n + 2 - 2 ≡ n
back n = omega arith

pub store-requires : goal.store-requires
store-requires g c = let sized = c.args.self.now.sized.0 in let below = c.requires.note.0 in (
  c.requires.seat.0,
  omega arith,
  publishes _ _ _ _ _ _ _ _ _ _ (c.args.note + 2) c.args.word (omega arith) (omega arith) c.requires.seat.1.1 c.args.seat.now.live
      (ap (λ i. get_or c.args.seat.now.seat.me.0.notes i 0) (back c.args.note) ∙ c.requires.fresh),
)
