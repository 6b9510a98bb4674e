-- What is wrong with a list of steps.
use Rattle.std.specs.Prelude.{ℕ, ◌+◌, ◌||◌, cond, eqb, ltb, List, [], ◌∷◌, length, Option, Some, None}
use Rattle.std.specs.Option.{option_or}
use Rattle.store_setup.specs.declared.profile.faults.StepsError.{StepsError}
use Rattle.store_setup.specs.declared.profile.faults.StepsError.TheVariants.{Steps, EmptyStep, Twice}
use Rattle.store_setup.specs.profile.Steps.{has_twice}

-- of step i
abbrev pub step_fault : ℕ → List ℕ → Option StepsError
step_fault i tables = cond (eqb (length tables) 0) (Some (EmptyStep i)) (cond (has_twice tables) (Some (Twice i)) None)

-- of the first step that has a fault; the steps are numbered from i on
abbrev pub first_step_fault : ℕ → List (List ℕ) → Option StepsError
first_step_fault i [] = None
first_step_fault i (tables ∷ steps) = option_or (step_fault i tables) (first_step_fault (i + 1) steps)

-- of the whole list: not 1 to 16 steps, or else the fault of the first step that has one
abbrev pub steps_fault : List (List ℕ) → Option StepsError
steps_fault steps = cond (eqb (length steps) 0 || ltb 16 (length steps)) (Some Steps) (first_step_fault 0 steps)
