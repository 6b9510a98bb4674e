-- The cursors of the transactions of a history, as a list.
use Rattle.std.specs.Prelude.{◌≡◌, ℕ, ◌-◌, List, map, slice_index, slice_set, unwrap_or}
use Rattle.teb_rules.specs.declared.history.Event.{Event}
use Rattle.teb_rules.specs.history.Phases.{txns}
use Rattle.teb_rules.specs.Setup.{Setup}
use Rattle.teb_rules.specs.Steps.{cursor, least_step}

-- what contracts see: the cursors, that of transaction 1 first, and for how many more there is room
pub record Kept : Type 0 where
  pub cursors : List ℕ
  pub spare : ℕ

-- the cursor of transaction t
abbrev pub cursor_in : List ℕ → ℕ → ℕ
cursor_in cs t = slice_index cs (t - 1)

-- the cursors after an access of a table by t, whose profile has these steps
abbrev pub moved : List ℕ → ℕ → List (List ℕ) → ℕ → List ℕ
moved cs t steps table = let c = cursor_in cs t in slice_set cs (t - 1) (unwrap_or (least_step steps c table) c)

-- these are the cursors of the transactions of H
abbrev pub CursorsOf : List ℕ → Setup → List Event → Type 0
CursorsOf cs S H = cs ≡ map (cursor S H) (txns H)
