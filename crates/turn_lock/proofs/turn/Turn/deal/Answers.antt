use Rattle.std.proofs.Common.{sym, subst, ℕ, arith}
use Rattle.atomic_table.specs.Table.{Splits}
use Rattle.turn_lock.specs.Views.{given, remaining}
use Rattle.turn_lock.specs.Rule.{Holds}
use Rattle.turn_lock.proofs.Splitting.{splits}
use Rattle.turn_lock.proofs.turn.Turn.deal.Goals as goal

pub split_seat-seat-requires : goal.split_seat-seat-requires
split_seat-seat-requires g c = let sized = c.args.self.now.sized.0 in let d = c.requires.deal in let key = c.args.self.now.table.shared.key in let seat = c.args.seat.now.seat in let m = g.T.Member in
    let out = c.requires.seat.1 in (
      c.requires.seat.0,
      omega arith,
      subst (λ (z : ℕ × ℕ). Splits (Holds m.entries m.owner m.note m.base (m.base key.value.value) key.owners key.notes) seat.id seat.me.0 (remaining z.0 z.1 seat.me.0) (given z.0 z.1 seat.me.0))
          (λ i. (sym d.0 i, sym d.1 i))
          (splits _ _ _ _ _ _ _ seat.id seat.me.0 c.args.owner c.args.turns out.1 out.2 c.requires.owner.0 c.requires.owner.1 c.requires.turns),
    )
