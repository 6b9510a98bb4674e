-- The script of each session.
use Rattle.std.specs.Prelude.{ℕ, not, ◌==◌, filter, map, List, length}
use Rattle.std.specs.List.{range_with_len}
use Rattle.teb_rules.specs.declared.names.Session.{Session}
use Rattle.script_text.specs.declared.Line.{Line}

abbrev pub session : ℕ → Session
session n = record { 0 = n }

-- the numbers that a session may have
unfoldable pub session_numbers : List ℕ
session_numbers = range_with_len 0 256

-- the lines of session n
unfoldable pub lines_for : List Line → ℕ → List Line
lines_for lines n = filter (λ l. l.session.0 == n) lines

-- each session that has a line, in ascending number, with its lines in order
unfoldable pub scripts_of : List Line → List (Session × List Line)
scripts_of lines = filter (λ s. not (length s.1 == 0)) (map (λ n. (session n, lines_for lines n)) session_numbers)
