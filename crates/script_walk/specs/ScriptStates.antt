-- Where a session stands in its script, by indices of its lines in place of the lines that are left.
use Rattle.std.specs.Prelude.{ℕ, List, Option, Some, None, drop, map}
use Rattle.teb_rules.specs.declared.names.Request.{Request}
use Rattle.script_text.specs.declared.Line.{Line}
use Rattle.teb_rules.specs.Scripts.{ScriptState}
use Rattle.script_walk.specs.declared.walker.Walker.{Walker}

-- what lines ask
abbrev pub requests_on : List Line → List Request
requests_on lines = map (λ l. l.request) lines

-- the lines from an index on, if there is one
abbrev pub lines_from : List Request → Option ℕ → Option (List Request)
lines_from lines None = None
lines_from lines (Some i) = Some (drop i lines)

abbrev pub state_at : List Request → ℕ → Option ℕ → ScriptState
state_at lines at begun = record { rest = drop at lines; begun = lines_from lines begun }

-- where a walker along the lines stands
abbrev pub state_of : List Line → Walker → ScriptState
state_of lines w = state_at (requests_on lines) w.at w.begun
