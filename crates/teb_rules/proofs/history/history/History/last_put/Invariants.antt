use Rattle.std.proofs.Common.{◌≡◌}
use Rattle.teb_rules.specs.history.Accesses.{last_put}
use Rattle.teb_rules.specs.history.OwnEvents.{put_in}
use Rattle.teb_rules.proofs.lemmas.history.OwnWalks.{newest_in}
use Rattle.teb_rules.proofs.history.history.History.last_put.Given as goal

abbrev pub invariant-loop-event : goal.invariant-loop-event
invariant-loop-event l = newest_in (put_in l.cell) l.event-iterator ≡ last_put l.fn.self.events l.fn.t.0 l.cell
