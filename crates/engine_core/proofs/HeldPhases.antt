-- What the phase of a transaction says about it.
use Rattle.std.proofs.Common.{◌≡◌, ℕ, Bool, true, false, cond, not, ◌&&◌, List, refl, inl, inr}
use Rattle.std.proofs.lemmas.Bool.{or_cases}
use Rattle.teb_rules.specs.declared.history.Event.{Event}
use Rattle.teb_rules.specs.declared.history.Phase.{Phase}
use Rattle.teb_rules.specs.declared.history.Phase.TheVariants as phase
use Rattle.teb_rules.specs.history.Positions.{came}
use Rattle.teb_rules.specs.history.Phases.{begun, committed, aborted, ready_at, unfinished, untold, prepared}
use Rattle.teb_rules.specs.history.Written.{phase_of}
use Rattle.teb_rules.specs.history.Live.{is_live}
use Rattle.teb_rules.proofs.lemmas.laws.Reachable.{untold_gone}

abbrev phase_by : Bool → Bool → Bool → Bool → Phase
phase_by d g b r = cond d phase.Committed (cond g phase.Aborted (cond (not b) phase.NotBegun (cond r phase.Ready phase.Running)))

pub running_phase : (H : List Event) (t : ℕ) → phase_of H t ≡ phase.Running → (unfinished H t ≡ true) × (false ≡ prepared H t)
unfolding unfinished prepared
running_phase H t e = go (committed H t) (aborted H t) (begun H t) (came H (ready_at H t)) e
  where
    go : (d g b r : Bool) → phase_by d g b r ≡ phase.Running → ((b && not d && not g) ≡ true) × (false ≡ (b && not d && not g && r))
    go true g b r e = absurd (cc)
    go false true b r e = absurd (cc)
    go false false false r e = absurd (cc)
    go false false true true e = absurd (cc)
    go false false true false e = (refl, refl)

pub ready_phase : (H : List Event) (t : ℕ) → phase_of H t ≡ phase.Ready → (unfinished H t ≡ true) × (true ≡ prepared H t)
unfolding unfinished prepared
ready_phase H t e = go (committed H t) (aborted H t) (begun H t) (came H (ready_at H t)) e
  where
    go : (d g b r : Bool) → phase_by d g b r ≡ phase.Ready → ((b && not d && not g) ≡ true) × (true ≡ (b && not d && not g && r))
    go true g b r e = absurd (cc)
    go false true b r e = absurd (cc)
    go false false false r e = absurd (cc)
    go false false true false e = absurd (cc)
    go false false true true e = (refl, refl)

-- a live transaction that is neither running nor ready is aborted
pub live_aborted : (H : List Event) (t : ℕ) → (phase_of H t ≡ phase.Running → ⊥) → (phase_of H t ≡ phase.Ready → ⊥) → is_live H t ≡ true → aborted H t ≡ true
unfolding unfinished
live_aborted H t f k l = elim (or_cases (unfinished H t) (untold H t) l) [ inl u ↦ absurd (other (committed H t) (aborted H t) (begun H t) (came H (ready_at H t)) f k u) | inr u ↦ untold_gone H t u ]
  where
    other : (d g b r : Bool) → (phase_by d g b r ≡ phase.Running → ⊥) → (phase_by d g b r ≡ phase.Ready → ⊥) → (b && not d && not g) ≡ true → ⊥
    other true g true r f k u = absurd (cc)
    other true g false r f k u = absurd (cc)
    other false true true r f k u = absurd (cc)
    other false true false r f k u = absurd (cc)
    other false false false r f k u = absurd (cc)
    other false false true true f k u = k refl
    other false false true false f k u = f refl
