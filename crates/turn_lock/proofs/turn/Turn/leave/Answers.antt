use Rattle.std.proofs.Common.{rules, ◌≡◌, ap, sym, ◌∙◌, ◌∷◌, Some, subst}
use Rattle.atomic_table.specs.Table.{rest}
use Rattle.turn_lock.specs.Calls.{Adds}
use Rattle.turn_lock.proofs.Moving.{moves}
use Rattle.turn_lock.proofs.turn.Turn.leave.Goals as goal

pub fetch_add-requires : goal.fetch_add-requires
fetch_add-requires g c = let x = c.exchange-nothing.ensures in let m = g.T.Member in let inside = c.requires.seat.1 in
    let v : c.exchange-nothing.new.seat.me.0 ≡ c.args.seat.now.seat.me.0 = ap (λ m. m.0) x.3 in (
      x.0 ∙ c.requires.seat.0,
      search rules,
      moves _ _ _ _ _ _ _ _ _ _ c.args.value (ap (λ m. m.1) x.3 ∙ ap (λ l. (0, Some c.args.value) ∷ rest l) inside.0) (ap (λ w. w.inside) v ∙ inside.1)
          (λ n. c.args.seat.now.live (ap (λ w. w.owners) (sym v) ∙ n)) (subst (λ w. Adds m.entries m.owner m.note m.base w c.args.value) (sym v) c.requires.adds),
    )
