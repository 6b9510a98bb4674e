-- The session numbers.
use Rattle.std.proofs.Common.{◌≡◌, ℕ, zero, suc, ◌≤◌, List, [], ◌∷◌, inl, inr, sym, subst, arith}
use Rattle.std.proofs.lemmas.Bool.{cases_lt}
use Rattle.teb_rules.specs.history.Phases.{numbers}
use Rattle.turn_lock.specs.Counts.{Has, HasAll}
use Rattle.turn_lock.proofs.Counts.{same_yes, times_append}
use Rattle.teb_rules.specs.declared.names.TheConstants.{SESSIONS}

numbers_has : (n x : ℕ) → 1 ≤ x → x ≤ n → Has (numbers n) x
unfolding numbers
numbers_has zero x a b = absurd (omega arith)
numbers_has (suc n) x a b = let t = times_append x (numbers n) (suc n ∷ []) in elim (cases_lt n x) [
  | inl l ↦ (let s = same_yes x (suc n) (let e : x ≡ suc n = omega arith in e) in omega arith)
  | inr l ↦ (let h = numbers_has n x a l in omega arith)
]

-- the numbers from 1 to SESSIONS contain each session number
pub has_all : (ys : List ℕ) → ys ≡ numbers SESSIONS → HasAll SESSIONS ys
has_all ys e = subst (λ (zs : List ℕ). HasAll SESSIONS zs) (sym e) (numbers_has SESSIONS)
