-- A list of lines for each number of a session.
use Rattle.std.specs.Prelude.{ℕ, ◌++◌, ◌∷◌, [], Bool, not, ◌==◌, map, List, length, slice_index_or, slice_set, Vec}
use Rattle.std.specs.declared.alloc.Global.{Global}
use Rattle.teb_rules.specs.declared.names.Session.{Session}
use Rattle.script_text.specs.declared.Line.{Line}

abbrev pub lists_in : List (Vec Line Global) → List (List Line)
lists_in vs = map (λ v. v.items) vs

-- what stands in the list of a session
abbrev pub list_at : List (List Line) → ℕ → List Line
list_at lists n = slice_index_or lists n []

abbrev pub has_list : List (List Line) → Session → Bool
has_list lists s = not (length (list_at lists s.0) == 0)

-- the line, behind the others of its session
abbrev pub with_line : List (List Line) → Line → List (List Line)
with_line lists l = slice_set lists l.session.0 (list_at lists l.session.0 ++ l ∷ [])

-- these sessions, each with its list
abbrev pub paired : List Session → List (List Line) → List (Session × List Line)
paired sessions lists = map (λ s. (s, list_at lists s.0)) sessions
