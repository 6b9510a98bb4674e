use Rattle.std.proofs.Common.{◌≡◌, take}
use Rattle.teb_rules.specs.Driver.{seated}
use Rattle.script_runner.specs.turns.Seats.{seats_in, scripts_on}
use Rattle.script_runner.proofs.turns.ring.Ring.new.Given as goal

-- the seats of the sessions so far
abbrev pub invariant-loop-i : goal.invariant-loop-i
invariant-loop-i l = seats_in l.cursors.items ≡ seated (scripts_on (take l.i l.scripts))
