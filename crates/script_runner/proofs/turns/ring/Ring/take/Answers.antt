use Rattle.std.proofs.Common.{◌≡◌, ◌<◌, Bool, get_or, length, sym, ◌∙◌, ap, arith}
use Rattle.teb_rules.specs.Driver.{Seat, due, seat_after}
use Rattle.script_runner.specs.declared.turns.cursor.Cursor.{Cursor}
use Rattle.script_runner.specs.turns.Seats.{seat_of}
use Rattle.script_runner.proofs.lemmas.turns.Circles.{round_on, seat_there}
use Rattle.script_runner.proofs.lemmas.turns.Offers.{any_set, not_other}
use Rattle.script_runner.proofs.turns.ring.Ring.take.Goals as goal

pub returns-then-is_due-was_due : goal.returns-then-is_due-was_due
returns-then-is_due-was_due c = λ w a h e.
    let v = c.args.self.now.cursors in
    let z = v.ok.0 in
    let l : c.args.index < length v.items = omega (arith, c.requires.within) in
    round_on v.items c.args.index c.take.new.self (seat_after w a) l
    (c.take.ensures a e ∙ ap (λ (s : Seat). seat_after s a) (seat_there v.items c.args.index c.index_mut-cursor.result.now w l c.index_mut-cursor.ensures.value h))

pub returns-else-is_due-was_due : goal.returns-else-is_due-was_due
returns-else-is_due-was_due c = λ w a h e.
    let v = c.args.self.now.cursors in
    let z = v.ok.0 in
    let l : c.args.index < length v.items = omega (arith, c.requires.within) in
    round_on v.items c.args.index c.take.new.self (seat_after w a) l
    (c.take.ensures a e ∙ ap (λ (s : Seat). seat_after s a) (seat_there v.items c.args.index c.index_mut-cursor.result.now w l c.index_mut-cursor.ensures.value h))

pub invariant_of-self-else-is_due-was_due-clause-told : goal.invariant_of-self-else-is_due-was_due-clause-told
invariant_of-self-else-is_due-was_due-clause-told c =
    let v = c.args.self.now.cursors in
    let z = v.ok.0 in
    let l : c.args.index < length v.items = omega (arith, c.requires.within) in
    let p : Cursor → Bool = λ k. due (seat_of k) in
    let before = c.index_mut-cursor.result.now in
    let same : c.is_due.result ≡ c.is_due-was_due.result = not_other c.is_due.result c.is_due-was_due.result c.if-is_due-was_due.false in
    let kept : p c.take.new.self ≡ p (get_or v.items c.args.index before) = sym c.is_due.ensures ∙ same ∙ c.is_due-was_due.ensures ∙ ap p c.index_mut-cursor.ensures.value in
    c.args.self.now.told ∙ sym (any_set p v.items c.args.index c.take.new.self before l kept)
