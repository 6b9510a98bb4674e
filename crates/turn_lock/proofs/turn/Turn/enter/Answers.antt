use Rattle.std.proofs.Common.{rules, ◌≡◌, ap, sym, ◌∙◌, ◌∷◌, Some}
use Rattle.atomic_table.specs.Table.{rest}
use Rattle.turn_lock.specs.Views.{drawn}
use Rattle.turn_lock.proofs.Drawing.{draws}
use Rattle.turn_lock.proofs.Arriving.{looks}
use Rattle.turn_lock.proofs.turn.Turn.enter.Goals as goal

pub fetch_add-ticket-requires : goal.fetch_add-ticket-requires
fetch_add-ticket-requires g c = let out = c.requires.seat.1 in (c.requires.seat.0, search rules, draws _ _ _ _ _ _ _ _ _ _ out.1 out.2 c.requires.turns)

pub load-serving-requires : goal.load-serving-requires
load-serving-requires g c = let e : c.loop.seat.seat.me ≡ (drawn c.fetch_add-ticket.result c.args.seat.now.seat.me.0, c.args.seat.now.seat.me.1)
    = c.loop.invariant.1 ∙ c.fetch_add-ticket.ensures.2 in (
      search rules,
      search rules,
      looks _ _ _ _ _ _ _ _ _ _ c.fetch_add-ticket.result (ap (λ m. m.0.ticket) e) (ap (λ m. m.0.inside) e ∙ c.requires.seat.1.2)
          (λ n. c.args.seat.now.live (ap (λ m. m.0.owners) (sym e) ∙ n)),
    )

pub exchange-requires : goal.exchange-requires
exchange-requires g c = let e : c.loop.seat.seat.me ≡ (drawn c.fetch_add-ticket.result c.args.seat.now.seat.me.0, c.args.seat.now.seat.me.1) = c.loop.invariant.1 ∙ c.fetch_add-ticket.ensures.2 in
    let t = c.load-serving.ensures.2.0 (ap (λ m. m.0.ticket) e ∙ ap Some (sym c.if-serving-ticket.true)) in
    (search rules, (Some t.value, ap (λ m. m.1) t.is ∙ ap (λ m. (0, Some t.value) ∷ rest m.1) (sym t.is)))
