-- The rounds of a cascade: the transactions that have fallen after k of them.
use Rattle.std.proofs.Common.{◌≡◌, ◌⊎◌, ℕ, zero, suc, ◌+◌, ◌-◌, ◌<◌, ◌≤◌, Bool, true, false, List, [], length, filter, refl, sym, ◌∙◌, ap, subst, inl, inr, arith}
use Rattle.std.proofs.lemmas.Bool.{cases_lt}
use Rattle.teb_rules.specs.declared.history.Event.{Event}
use Rattle.teb_rules.specs.history.Phases.{txns, begun_count}
use Rattle.teb_rules.specs.Cascade.{fallen, cascade}
use Rattle.teb_rules.proofs.lemmas.laws.Cascades.{falls, filter_count, fallen_step, falls_more, fallen_fixed, widened, no_members, cascade_closed}

-- whether u has fallen after k rounds
pub falls_by : List Event → ℕ → ℕ → ℕ → Bool
falls_by H t zero u = false
falls_by H t (suc k) u = falls H t (filter (falls_by H t k) (txns H)) u

-- the transactions that have fallen after k rounds
unfoldable pub stage : List Event → ℕ → ℕ → List ℕ
stage H t k = filter (falls_by H t k) (txns H)

module _ (H : List Event) (t : ℕ) where
  pub stage_none : stage H t zero ≡ []
  unfolding stage falls_by
  stage_none = no_members (txns H)

  pub stage_next : (k : ℕ) → stage H t (suc k) ≡ filter (falls H t (stage H t k)) (txns H)
  unfolding stage falls_by
  stage_next k = refl

  grows : (k u : ℕ) → falls_by H t k u ≡ true → falls_by H t (suc k) u ≡ true
  unfolding falls_by
  grows zero u h = absurd (let z : false ≡ true = h in cc)
  grows (suc k) u h = falls_more H t (filter (falls_by H t k) (txns H)) (filter (falls_by H t (suc k)) (txns H)) (widened (falls_by H t k) (falls_by H t (suc k)) (txns H) (grows k)) u h

  grows_on : (m k u : ℕ) → falls_by H t k u ≡ true → falls_by H t (m + k) u ≡ true
  grows_on zero k u h = let e : zero + k ≡ k = omega arith in subst (λ (i : ℕ). falls_by H t i u ≡ true) (sym e) h
  grows_on (suc m) k u h = let e : suc m + k ≡ suc (m + k) = omega arith in subst (λ (i : ℕ). falls_by H t i u ≡ true) (sym e) (grows (m + k) u (grows_on m k u h))

  fallen_none : (us : List ℕ) → fallen H t zero us ≡ us
  unfolding fallen
  fallen_none us = refl

  fallen_stage : (d k : ℕ) → fallen H t d (stage H t k) ≡ stage H t (d + k)
  fallen_stage zero k = let e : zero + k ≡ k = omega arith in fallen_none (stage H t k) ∙ sym (ap (stage H t) e)
  fallen_stage (suc d) k = let e : d + suc k ≡ suc d + k = omega arith in fallen_step H t d (stage H t k) ∙ ap (fallen H t d) (sym (stage_next k)) ∙ fallen_stage d (suc k) ∙ ap (stage H t) e

  pub cascade_stage : cascade H t ≡ stage H t (begun_count H)
  unfolding cascade
  cascade_stage = let e : begun_count H + zero ≡ begun_count H = omega arith in ap (fallen H t (begun_count H)) (sym stage_none) ∙ fallen_stage (begun_count H) zero ∙ ap (stage H t) e

  -- a round adds no transaction, or at least one
  pub stage_step : (k : ℕ) → (stage H t k ≡ stage H t (suc k)) ⊎ (length (stage H t k) < length (stage H t (suc k)))
  unfolding stage
  stage_step k = filter_count (falls_by H t k) (falls_by H t (suc k)) (txns H) (grows k)

  shorter : (m k : ℕ) → length (stage H t k) ≤ length (stage H t (m + k))
  unfolding stage
  shorter m k = elim (filter_count (falls_by H t k) (falls_by H t (m + k)) (txns H) (grows_on m k)) [ inl e ↦ omega (arith, ap length e) | inr l ↦ omega arith ]

  past : (m : ℕ) → stage H t (m + begun_count H) ≡ cascade H t
  past m = sym (fallen_stage m (begun_count H)) ∙ ap (fallen H t m) (sym cascade_stage) ∙ fallen_fixed H t m (cascade H t) (cascade_closed H t)

  pub stage_length : (k : ℕ) → length (stage H t k) ≤ length (cascade H t)
  stage_length k = elim (cases_lt k (begun_count H)) [
    | inl lt ↦ let e : (begun_count H - k) + k ≡ begun_count H = omega arith in omega (arith, shorter (begun_count H - k) k, ap (λ (i : ℕ). length (stage H t i)) e, ap length cascade_stage)
    | inr ge ↦ let e : (k - begun_count H) + begun_count H ≡ k = omega arith in omega (arith, ap length (past (k - begun_count H)), ap (λ (i : ℕ). length (stage H t i)) e)
  ]

  -- a round that adds nothing is the last
  pub stage_last : (k : ℕ) → length (stage H t (suc k)) ≡ length (stage H t k) → (stage H t (suc k) ≡ stage H t k) × (stage H t k ≡ cascade H t)
  stage_last k n = elim (stage_step k) [
    | inr l ↦ absurd (omega arith)
    | inl e ↦ (
      sym e,
      elim (cases_lt k (begun_count H)) [
        | inl lt ↦
            let i : (begun_count H - k) + k ≡ begun_count H = omega arith in
            sym (cascade_stage ∙ ap (stage H t) (sym i) ∙ sym (fallen_stage (begun_count H - k) k) ∙ fallen_fixed H t (begun_count H - k) (stage H t k) (sym (stage_next k) ∙ sym e))
        | inr ge ↦ let i : (k - begun_count H) + begun_count H ≡ k = omega arith in ap (stage H t) (sym i) ∙ past (k - begun_count H)
      ],
    )
  ]
