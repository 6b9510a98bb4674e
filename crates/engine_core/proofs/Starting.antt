-- The controls of the first nodes.
use Rattle.std.proofs.Common.{◌≡◌, ◌⊎◌, inl, inr, ℕ, zero, suc, ◌+◌, List, [], ◌∷◌, ◌++◌, length, length-append, Some, slice_get, refl, sym, ◌∙◌, subst, arith}
use Rattle.teb_rules.specs.declared.history.Event.{Event}
use Rattle.teb_rules.specs.Setup.{Setup}
use Rattle.phase_api.specs.Standing.{StandAll}

-- there is a control for each of the first n nodes
pub record AreFirst {K : Type 0} (node_number : K → ℕ) (stands : K → Setup → List Event → Type 0) (S : Setup) (H : List Event) (cs : List K) (n : ℕ) : Type 0 where
  pub many : length cs ≡ n
  pub each : (i : ℕ) (c : K) → slice_get cs i ≡ Some c → (node_number c ≡ i) × stands c S H

module _ {K : Type 0} (node_number : K → ℕ) (stands : K → Setup → List Event → Type 0) (S : Setup) (H : List Event) where
  last_or_before : (cs : List K) (d : K) (i : ℕ) (c : K) → slice_get (cs ++ d ∷ []) i ≡ Some c → (slice_get cs i ≡ Some c) ⊎ ((i ≡ length cs) × (d ≡ c))
  last_or_before [] d zero c e = inr (refl, (cc))
  last_or_before [] d (suc i) c e = absurd (cc)
  last_or_before (x ∷ cs) d zero c e = inl e
  last_or_before (x ∷ cs) d (suc i) c e = elim (last_or_before cs d i c e) [ inl h ↦ inl h | inr h ↦ inr ((let q = h.0 in omega arith), h.1) ]

  pub first_more : (cs ds : List K) (d : K) (n : ℕ) → AreFirst node_number stands S H cs n → node_number d ≡ n → stands d S H → ds ≡ cs ++ d ∷ [] → AreFirst node_number stands S H ds (n + 1)
  first_more cs ds d n f p s q = subst (λ (es : List K). AreFirst node_number stands S H es (n + 1)) (sym q) (record {
    many = (let m = f.many in let z = length-append cs (d ∷ []) in omega arith);
    each = λ i c e. elim (last_or_before cs d i c e) [
      | inl h ↦ f.each i c h
      | inr h ↦ (subst (λ (k : K). node_number k ≡ i) h.1 (p ∙ sym (h.0 ∙ f.many)), subst (λ (k : K). stands k S H) h.1 s)
    ];
  })

  pub first_all : (cs : List K) (n : ℕ) → AreFirst node_number stands S H cs n → n ≡ length S.tree → StandAll node_number stands cs S H
  first_all cs n f q = record { one_each = f.many ∙ q; each_numbered = λ i c e. (f.each i c e).0; each_stands = λ i c e. (f.each i c e).1 }
