use Rattle.shared_store.proofs.Gathering.{AtFront, AtLog}
use Rattle.shared_store.proofs.store.Store.close.Given as goal

abbrev pub invariant-loop-session : goal.invariant-loop-session
invariant-loop-session g l = AtFront l.turn l.fn.sessions.items l.sessions.items l.seat × AtLog l.log_turn l.fn.sessions.items l.sessions.items l.log_seat

abbrev pub decreases-loop-session : goal.decreases-loop-session
decreases-loop-session g l = goal.left-loop-session g l
