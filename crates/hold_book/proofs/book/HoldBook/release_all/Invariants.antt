use Rattle.teb_rules.specs.history.OwnEvents.{own_events}
use Rattle.hold_book.proofs.Releasing.{IsReleasing}
use Rattle.hold_book.proofs.book.HoldBook.release_all.Given as goal

abbrev pub invariant-loop-event : goal.invariant-loop-event
invariant-loop-event l = IsReleasing l.t.0 l.initial.self l.self (own_events l.history.events l.t.0) l.event-iterator
