use Rattle.std.proofs.Common.{◌≡◌, None}
use Rattle.std.specs.List.{AllWithin}
use Rattle.teb_rules.specs.Driver.{Seat, offer}
use Rattle.script_runner.specs.turns.Seats.{seats_in}
use Rattle.script_runner.proofs.turns.ring.Ring.first.Given as goal

-- no seat from `from` to here has an offer
abbrev pub invariant-loop-index : goal.invariant-loop-index
invariant-loop-index l = AllWithin (λ (w : Seat). offer l.history.events (seats_in l.self.cursors.items) w ≡ None) (seats_in l.self.cursors.items) l.from l.index
