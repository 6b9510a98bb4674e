-- A list of steps without a fault is a profile.
use Rattle.std.proofs.Common.{◌≡◌, ℕ, zero, suc, ◌+◌, ◌<◌, Bool, true, false, cond, ◌||◌, eqb, ltb, List, [], ◌∷◌, Option, Some, None, refl, arith, length, get_or}
use Rattle.std.proofs.lemmas.Bool.{or_parts, ltb-false}
use Rattle.std.specs.Option.{option_or}
use Rattle.store_setup.specs.declared.profile.faults.StepsError.{StepsError}
use Rattle.store_setup.specs.declared.profile.faults.StepsError.TheVariants.{Steps, EmptyStep, Twice}
use Rattle.store_setup.specs.profile.Faults.{step_fault, first_step_fault, steps_fault}
use Rattle.store_setup.specs.profile.Steps.{has_twice, IsProfile}

passes : (b : Bool) (fault : StepsError) (o : Option StepsError) → cond b (Some fault) o ≡ None → (b ≡ false) × (o ≡ None)
passes true fault o e = absurd (cc)
passes false fault o e = (refl, e)

neither : (o p : Option StepsError) → option_or o p ≡ None → (o ≡ None) × (p ≡ None)
neither (Some fault) p e = absurd (cc)
neither None p e = (refl, e)

some : {X : Type 0} (xs : List X) → eqb (length xs) 0 ≡ false → 0 < length xs
some [] e = absurd (cc)
some (x ∷ xs) e = omega arith

step_passes : (i k : ℕ) (steps : List (List ℕ)) → first_step_fault i steps ≡ None → k < length steps → (0 < length (get_or steps k [])) × (has_twice (get_or steps k []) ≡ false)
step_passes i k [] e h = absurd (omega arith)
step_passes i zero (tables ∷ steps) e h =
    let own = neither (step_fault i tables) (first_step_fault (i + 1) steps) e in
    let kept = passes (eqb (length tables) 0) (EmptyStep i) _ own.0 in
    (some tables kept.0, (passes (has_twice tables) (Twice i) _ kept.1).0)
step_passes i (suc k) (tables ∷ steps) e h = step_passes (i + 1) k steps (neither (step_fault i tables) (first_step_fault (i + 1) steps) e).1 (omega arith)

pub profile_from : (steps : List (List ℕ)) → steps_fault steps ≡ None → IsProfile steps
profile_from steps e =
    let count = passes (eqb (length steps) 0 || ltb 16 (length steps)) Steps (first_step_fault 0 steps) e in
    let parts = or_parts (eqb (length steps) 0) (ltb 16 (length steps)) count.0 in
    record {
      some = some steps parts.0;
      few = ltb-false 16 (length steps) parts.1;
      filled = λ i h. (step_passes 0 i steps count.1 h).0;
      once = λ i h. (step_passes 0 i steps count.1 h).1;
    }
