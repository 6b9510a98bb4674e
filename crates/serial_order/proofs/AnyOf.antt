-- Tests over the numbers from 1 up to a number.
use Rattle.std.proofs.Common.{◌≡◌, ℕ, suc, ◌+◌, Bool, true, false, ◌||◌, List, [], ◌∷◌, ◌++◌, refl, ap, subst, ◌∙◌, arith}
use Rattle.std.specs.List.{list_any}
use Rattle.teb_rules.proofs.lemmas.names.Bools.{or_false}
use Rattle.teb_rules.specs.history.Phases.{numbers}

any_append : (p : ℕ → Bool) (us : List ℕ) (u : ℕ) → list_any p (us ++ u ∷ []) ≡ (list_any p us || p u)
any_append p [] u = or_false (p u)
any_append p (v ∷ us) u = ap (λ (b : Bool). p v || b) (any_append p us u) ∙ assoc (p v) (list_any p us) (p u)
  where
    assoc : (a b c : Bool) → (a || (b || c)) ≡ ((a || b) || c)
    assoc true b c = refl
    assoc false b c = refl

-- a test of the numbers up to k + 1 is that of the numbers up to k, or of k + 1
pub any_next : (p : ℕ → Bool) (k : ℕ) → list_any p (numbers (k + 1)) ≡ (list_any p (numbers k) || p (k + 1))
any_next p k = let e : suc k ≡ k + 1 = omega arith in subst (λ (m : ℕ). list_any p (numbers m) ≡ (list_any p (numbers k) || p m)) e (above k)
  where
    above : (k : ℕ) → list_any p (numbers (suc k)) ≡ (list_any p (numbers k) || p (suc k))
    above k = unfold numbers in any_append p (numbers k) (suc k)

pub any_nobody : (p : ℕ → Bool) → list_any p (numbers 0) ≡ false
unfolding numbers
any_nobody p = refl
