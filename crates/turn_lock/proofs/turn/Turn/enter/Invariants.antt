use Rattle.std.specs.Prelude.{◌≡◌}
use Rattle.turn_lock.proofs.turn.Turn.enter.Given as goal

abbrev pub invariant-loop : goal.invariant-loop
invariant-loop g l = (l.seat.seat.table_id ≡ l.initial.seat.seat.table_id) × (l.seat.seat.me ≡ l.initial.seat.seat.me)
