-- Ascending lists of numbers; the transactions of a history form one.
use Rattle.std.proofs.Common.{ℕ, zero, suc, ◌<◌, List, [], ◌∷◌, ◌++◌, refl, subst, inl, inr, arith}
use Rattle.teb_rules.specs.declared.history.Event.{Event}
use Rattle.teb_rules.specs.history.Phases.{begun_count, numbers, txns}
use Rattle.teb_rules.specs.history.Ascending.{AllAbove, IsAscendingBy}
use Rattle.teb_rules.specs.Serializes.{In}
use Rattle.teb_rules.proofs.lemmas.laws.Serial.{numbers-In}

-- the key by which a list of numbers ascends: the number itself
abbrev pub number : ℕ → ℕ
number n = n

above_snoc : (n m : ℕ) (us : List ℕ) → n < m → AllAbove number n us → AllAbove number n (us ++ m ∷ [])
above_snoc n m [] l h = (l, tt)
above_snoc n m (u ∷ us) l h = (h.0, above_snoc n m us l h.1)

ascending_snoc : (m : ℕ) (us : List ℕ) → ((u : ℕ) → In u us → u < m) → IsAscendingBy number us → IsAscendingBy number (us ++ m ∷ [])
ascending_snoc m [] f h = (tt, tt)
ascending_snoc m (u ∷ us) f h = (above_snoc u m us (f u (inl refl)) h.0, ascending_snoc m us (λ v i. f v (inr i)) h.1)

pub numbers_ascending : (n : ℕ) → IsAscendingBy number (numbers n)
unfolding numbers
numbers_ascending zero = tt
numbers_ascending (suc n) = ascending_snoc (suc n) (numbers n) (λ u i. let l = numbers-In n u i in omega arith) (numbers_ascending n)

pub txns_ascending : (H : List Event) → IsAscendingBy number (txns H)
unfolding txns
txns_ascending H = numbers_ascending (begun_count H)

pub above_in : (n t : ℕ) (us : List ℕ) → AllAbove number n us → In t us → n < t
above_in n t [] h i = absurd i
above_in n t (u ∷ us) h i = elim i [ inl e ↦ subst (λ (z : ℕ). n < z) e h.0 | inr j ↦ above_in n t us h.1 j ]
