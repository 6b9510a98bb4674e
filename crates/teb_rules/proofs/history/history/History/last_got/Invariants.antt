use Rattle.std.proofs.Common.{◌≡◌}
use Rattle.teb_rules.specs.history.Accesses.{last_got}
use Rattle.teb_rules.specs.history.OwnEvents.{got_in}
use Rattle.teb_rules.proofs.lemmas.history.OwnWalks.{newest_in}
use Rattle.teb_rules.proofs.history.history.History.last_got.Given as goal

abbrev pub invariant-loop-event : goal.invariant-loop-event
invariant-loop-event l = newest_in (got_in l.cell) l.event-iterator ≡ last_got l.fn.self.events l.fn.t.0 l.cell
