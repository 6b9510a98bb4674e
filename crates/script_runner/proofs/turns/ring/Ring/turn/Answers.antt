use Rattle.std.proofs.Common.{◌≡◌, ℕ, length, None, subst, arith}
use Rattle.std.specs.List.{AllWithin}
use Rattle.std.proofs.lemmas.List.{length-map}
use Rattle.teb_rules.specs.Driver.{Seat, offer}
use Rattle.script_runner.specs.turns.Seats.{seat_of, seats_in}
use Rattle.script_runner.specs.turns.Turns.{IsFirstAt}
use Rattle.script_runner.proofs.lemmas.turns.Circles.{turn_back, turn_last}
use Rattle.script_runner.proofs.turns.ring.Ring.turn.Goals as goal

pub returns-in-Some : goal.returns-in-Some
returns-in-Some c =
    let H = c.args.history.now.events in
    let r = c.args.self.now in
    let ws = seats_in r.cursors.items in
    let n = length-map r.cursors.items seat_of in
    let z = r.cursors.ok.0 in
    let e : c.len.result ≡ length ws = omega arith in
    turn_back H r.next ws (omega (arith, r.within)) c.in-Some.asked (subst (λ (j : ℕ). IsFirstAt (offer H ws) ws r.next j c.in-Some.asked) e c.in-Some.ensures)

pub returns : goal.returns
returns c =
    let H = c.args.history.now.events in
    let r = c.args.self.now in
    let ws = seats_in r.cursors.items in
    let n = length-map r.cursors.items seat_of in
    let z = r.cursors.ok.0 in
    let e : c.len.result ≡ length ws = omega arith in
    turn_last H r.next ws (omega (arith, r.within)) (subst (λ (j : ℕ). AllWithin (λ (w : Seat). offer H ws w ≡ None) ws r.next j) e c.in_default.ensures) c.first-2.result c.first-2.ensures
