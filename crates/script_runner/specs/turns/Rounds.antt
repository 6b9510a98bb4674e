-- The round of a ring.
use Rattle.std.specs.Prelude.{List}
use Rattle.teb_rules.specs.Driver.{Seat}
use Rattle.script_runner.specs.declared.turns.ring.Ring.{Ring}
use Rattle.script_runner.specs.turns.Seats.{round_from, seats_in}

-- the seats in the order in which they are looked at
abbrev pub round_of : Ring → List Seat
round_of r = round_from r.next (seats_in r.cursors.items)
