-- The steps of a profile, each as the list of the numbers of its tables.
use Rattle.std.specs.Prelude.{◌≡◌, ℕ, ◌<◌, ◌≤◌, Bool, false, ◌||◌, List, [], ◌∷◌, length, get_or, map, Vec}
use Rattle.std.specs.declared.alloc.Global.{Global}
use Rattle.teb_rules.specs.declared.names.Table.{Table}
use Rattle.teb_rules.specs.Setup.{among}

abbrev pub numbers_of : List Table → List ℕ
numbers_of tables = map (λ t. t.0) tables

abbrev pub steps_of : List (Vec Table Global) → List (List ℕ)
steps_of steps = map (λ step. numbers_of step.items) steps

-- some table is listed twice in a step
abbrev pub has_twice : List ℕ → Bool
has_twice [] = false
has_twice (a ∷ tables) = among a tables || has_twice tables

-- what every profile is
pub record IsProfile (steps : List (List ℕ)) : Type 0 where
  pub some : 0 < length steps
  pub few : length steps ≤ 16
  pub filled : (i : ℕ) → i < length steps → 0 < length (get_or steps i [])
  pub once : (i : ℕ) → i < length steps → has_twice (get_or steps i []) ≡ false
