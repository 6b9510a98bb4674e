-- Cells and transactions as keys: two keys are equal or different.
use Rattle.std.proofs.Common.{true, false, Bool, ◌≡◌, ◌≢◌, ◌⊎◌, ℕ, refl, sym, ◌∙◌, ap, inl, inr, eq-eqb, eqb-true}
use Rattle.teb_rules.specs.declared.names.Txn.{Txn}
use Rattle.chain_pool.specs.Heads.{same_txn}
use Rattle.cell_index.proofs.Places.{decided}

pub same_txn-itself : (t : Txn) → same_txn t t ≡ true
same_txn-itself t = eq-eqb t.0 t.0 refl

pub same_txn-exact : (t u : Txn) → same_txn t u ≡ true → t ≡ u
same_txn-exact t u e = let made : ℕ → Txn = λ a. record { 0 = a } in ap made (eqb-true _ _ e)

module _ {K : Type 0} (same : K → K → Bool) (itself : (x : K) → same x x ≡ true) (exact : (x y : K) → same x y ≡ true → x ≡ y) where
  pub key_cases : (x y : K) → (x ≡ y) ⊎ (same x y ≡ false)
  key_cases x y = elim (decided (same x y)) [ inl e ↦ inl (exact x y e) | inr ne ↦ inr ne ]

  pub key_apart : (x y : K) → same x y ≡ false → x ≢ y
  key_apart x y ne e = let z : true ≡ false = sym (itself y) ∙ (ap (λ (w : K). same w y) (sym e) ∙ ne) in cc

  pub key_other : (x y : K) → x ≢ y → same x y ≡ false
  key_other x y ne = elim (key_cases x y) [ inl e ↦ absurd (ne e) | inr o ↦ o ]
