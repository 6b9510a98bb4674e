use Rattle.std.proofs.Common.{sym, ◌∙◌}
use Rattle.script_runner.specs.turns.Seats.{seat_of}
use Rattle.script_runner.proofs.lemmas.turns.Offers.{chosen_if}
use Rattle.script_runner.proofs.turns.offer.is_chosen.Goals as goal

pub returns-then-is_due : goal.returns-then-is_due
returns-then-is_due c = c.is_least_due.ensures ∙ sym (chosen_if c.args.cursors.now (seat_of c.args.cursor.now) (sym c.is_due.ensures ∙ c.if-is_due.true))
