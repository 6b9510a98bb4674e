-- Lines of the sessions that there are.
use Rattle.std.specs.Prelude.{◌<◌, ◌≤◌, List, [], ◌∷◌}
use Rattle.script_text.specs.declared.Line.{Line}
use Rattle.teb_rules.specs.declared.names.TheConstants.{SESSIONS}

-- each line is of a session, 1 to SESSIONS
abbrev pub AreOfSessions : List Line → Type 0
AreOfSessions [] = Unit {0}
AreOfSessions (l ∷ lines) = (0 < l.session.0) × (l.session.0 ≤ SESSIONS) × AreOfSessions lines
