use Rattle.std.specs.Prelude.{◌≡◌, ◌≤◌, ◌+◌, vec_len, vec_capacity}
use Rattle.turn_lock.specs.Seats.{base_in, view_of, IsOf, IsOutside}
use Rattle.shared_store.specs.Hosting.{first_of}
use Rattle.shared_store.specs.Keeping.{place_of}
use Rattle.shared_store.proofs.Dealing.{Rest, Dealt}
use Rattle.shared_store.proofs.make.deal_sessions.Given as goal
use Rattle.teb_rules.specs.declared.names.TheConstants.{SESSIONS}

abbrev pub invariant-loop-number : goal.invariant-loop-number
invariant-loop-number g l =
    IsOf l.turn l.seat × IsOutside l.seat × Rest (base_in first_of l.turn) l.number (view_of l.seat)
    × Dealt l.turn l.log_turn (base_in first_of l.turn) l.number l.sessions.items × (SESSIONS ≤ vec_capacity l.sessions) × (vec_len l.sessions + 1 ≡ l.number) × (1 ≤ l.number)
    × IsOf l.log_turn l.log_seat × IsOutside l.log_seat × Rest (base_in place_of l.log_turn) l.number (view_of l.log_seat)
