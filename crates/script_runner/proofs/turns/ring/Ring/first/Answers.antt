use Rattle.std.proofs.Common.{◌≡◌, ℕ, List, None, option_map, get_or, inl, inr, sym, ◌∙◌, ap, subst, arith}
use Rattle.std.proofs.lemmas.Bool.{cases_lt}
use Rattle.teb_rules.specs.Driver.{Seat, offer}
use Rattle.script_runner.specs.declared.turns.cursor.Cursor.{Cursor}
use Rattle.script_runner.specs.turns.Seats.{seat_of, seats_in}
use Rattle.script_runner.proofs.lemmas.turns.Circles.{seat_read}
use Rattle.script_runner.proofs.turns.ring.Ring.first.Goals as goal

pub loop-index-preserved : goal.loop-index-preserved
loop-index-preserved c =
    let H = c.args.history.now.events in
    let cs = c.args.self.now.cursors.items in
    let i = c.loop-index.index in
    let here : (d : Seat) → offer H (seats_in cs) (get_or (seats_in cs) i d) ≡ None = λ d.
    ap (offer H (seats_in cs)) (seat_read cs i c.index-cursor.result.now d (omega arith) c.index-cursor.ensures)
    ∙ ap (λ (l : List Cursor). offer H (seats_in l) (seat_of c.index-cursor.result.now)) (sym c.deref.ensures.value) ∙ sym c.offer.ensures ∙ ap (option_map (λ (r : _). r.now)) c.in_default.is in
    λ k d l m. elim (cases_lt k i) [
      | inl b ↦ c.loop-index.invariant k d l b
      | inr b ↦ (let e : i ≡ k = omega (arith, m, b) in subst (λ (j : ℕ). offer H (seats_in cs) (get_or (seats_in cs) j d) ≡ None) e (here d))
    ]
