-- Where a session stands in its script.
use Rattle.std.specs.Prelude.{◌≡◌, ℕ, List, slice_get, option_map, unwrap_or}
use Rattle.teb_rules.specs.declared.names.Entry.{Entry}
use Rattle.teb_rules.specs.Run.{replies_of}
use Rattle.teb_rules.specs.Scripts.{IsWay, at_first, state_after}
use Rattle.script_text.specs.declared.Line.{Line}
use Rattle.script_walk.specs.ScriptStates.{requests_on, state_of}
use Rattle.script_walk.specs.declared.walker.Walker.{Walker}

-- the entries are a way along the lines, and the walker stands where their replies lead
pub record IsUnderWay (lines : List Line) (entries : List Entry) (w : Walker) : Type 0 where
  pub way : IsWay (requests_on lines) entries
  pub stands : state_of lines w ≡ state_after (at_first (requests_on lines)) (replies_of entries)

-- the number of the line that the walker stands at, and 0 behind the last
abbrev pub number_at : Walker → List Line → ℕ
number_at w lines = unwrap_or (option_map (λ l. l.number) (slice_get lines w.at)) 0
