-- The turns of a session that it spares in a call.
use Rattle.std.specs.Prelude.{ℕ, ◌+◌, ◌*◌, ◌≤◌}
use Rattle.turn_lock.specs.Seats.{view_of}
use Rattle.shared_store.specs.declared.server.EpochServer.{Ghosts}
use Rattle.shared_store.specs.declared.session.StoreSession.{StoreSession}
use Rattle.shared_store.specs.declared.session.TheConstants.{MOST_TURNS}

-- beyond the turns of later asks it has so many at the front, and so many at the log
pub record HasTurns {V L B : Type 0} {g : Ghosts V L B} (front log : ℕ) (p : StoreSession V L B g) : Type 0 where
  pub at_front : MOST_TURNS + front ≤ (view_of p.seat).turns + 2 * p.asks
  pub at_log : MOST_TURNS + log ≤ (view_of p.log_seat).turns + 2 * p.asks
