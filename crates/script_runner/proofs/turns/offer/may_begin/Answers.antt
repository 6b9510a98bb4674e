use Rattle.std.proofs.Common.{not, ap, sym, ◌∙◌}
use Rattle.teb_rules.specs.Driver.{due}
use Rattle.script_runner.specs.turns.Seats.{seat_of, seats_in}
use Rattle.script_runner.proofs.lemmas.turns.Offers.{any_kept, begins_freely, begins_alone, begins_not}
use Rattle.script_runner.proofs.turns.offer.may_begin.Goals as goal

pub returns-then-not-has_due : goal.returns-then-not-has_due
returns-then-not-has_due c =
    let cs = c.args.cursors.now in
    ap not c.if-not-has_due.true
    ∙ sym (begins_freely c.args.history.now.events (seats_in cs) (seat_of c.args.cursor.now) (sym (any_kept due cs) ∙ sym c.requires ∙ c.if-not-has_due.true))

pub returns-then-is_chosen : goal.returns-then-is_chosen
returns-then-is_chosen c =
    let cs = c.args.cursors.now in
    c.is_quiet.ensures
    ∙ sym (begins_alone c.args.history.now.events (seats_in cs) (seat_of c.args.cursor.now) (sym (any_kept due cs) ∙ sym c.requires ∙ c.if-not-has_due.false)
    (sym c.is_chosen.ensures ∙ c.if-is_chosen.true))

pub returns-else-is_chosen : goal.returns-else-is_chosen
returns-else-is_chosen c =
    let cs = c.args.cursors.now in
    c.if-is_chosen.false
    ∙ sym (begins_not c.args.history.now.events (seats_in cs) (seat_of c.args.cursor.now) (sym (any_kept due cs) ∙ sym c.requires ∙ c.if-not-has_due.false)
    (sym c.is_chosen.ensures ∙ c.if-is_chosen.false))
