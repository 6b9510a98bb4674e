-- Which script is a session's.
use Rattle.std.specs.Prelude.{◌≡◌, ℕ, suc, ◌==◌, if◌then◌else◌, List, [], ◌∷◌, Option, Some, None, slice_get, option_map, unwrap_or}
use Rattle.teb_rules.specs.declared.names.Session.{Session}
use Rattle.script_text.specs.declared.Line.{Line}

abbrev pub Scripted : Type 0
Scripted = List (Session × List Line)

-- no two scripts are of one session
abbrev pub AreDistinct : Scripted → Type 0
AreDistinct scripts = (i j : ℕ) (s : Session) (k l : List Line) → slice_get scripts i ≡ Some (s, k) → slice_get scripts j ≡ Some (s, l) → i ≡ j

-- the first place of session s, where the list begins with place n
abbrev pub place_from : ℕ → ℕ → Scripted → Option ℕ
place_from n s [] = None
place_from n s (e ∷ es) = if e.0.0 == s then Some n else place_from (suc n) s es

abbrev pub place_in : Scripted → ℕ → Option ℕ
place_in scripts s = place_from 0 s scripts

-- the lines at a place, and none where there is no place
abbrev pub lines_at : Scripted → Option ℕ → List Line
lines_at scripts None = []
lines_at scripts (Some i) = unwrap_or (option_map (λ e. e.1) (slice_get scripts i)) []
