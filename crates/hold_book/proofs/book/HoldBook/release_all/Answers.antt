use Rattle.hold_book.proofs.Releasing.{releasing_next, access_of, released_own}
use Rattle.hold_book.proofs.book.HoldBook.release_all.Goals as goal

pub returns-clause-shown : goal.returns-clause-shown
returns-clause-shown c = released_own c.args.history.now.events c.args.t.0 c.args.self.now c.loop-event.self c.loop-event.event-iterator c.loop-event.invariant c.in-None.ensures.steps.0

pub loop-event-preserved : goal.loop-event-preserved
loop-event-preserved c =
    releasing_next c.args.t.0 c.args.self.now c.loop-event.self c.release.new.self _ c.loop-event.event-iterator c.next.new.self c.in-Some.event c.in-Got.cell c.loop-event.invariant
    c.in-Some.ensures.steps (access_of c.in-Some.event c.in-Got.cell c.in-Got.is) c.release.ensures.here c.release.ensures.elsewhere c.release.ensures.spare
