-- The sessions of the driver, as they are kept.
use Rattle.std.specs.Prelude.{ℕ, List, ◌++◌, take, drop, map}
use Rattle.teb_rules.specs.declared.names.Session.{Session}
use Rattle.script_text.specs.declared.Line.{Line}
use Rattle.teb_rules.specs.Scripts.{Script}
use Rattle.teb_rules.specs.Driver.{Seat}
use Rattle.script_walk.specs.ScriptStates.{requests_on, state_of}
use Rattle.script_runner.specs.declared.turns.cursor.Cursor.{Cursor}

abbrev pub seat_of : Cursor → Seat
seat_of c = record { session = c.session; state = state_of c.lines.now c.walker; aborts = c.aborts }

abbrev pub seats_in : List Cursor → List Seat
seats_in cursors = map seat_of cursors

-- the seats in the order in which they are looked at: those from the n-th on, and then those before it
abbrev pub round_from : ℕ → List Seat → List Seat
round_from n ws = drop n ws ++ take n ws

-- what the scripts ask
abbrev pub scripts_on : List (Session × List Line) → List Script
scripts_on scripts = map (λ s. (s.0, requests_on s.1)) scripts
