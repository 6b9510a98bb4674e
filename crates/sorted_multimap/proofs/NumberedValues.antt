-- Values in ascending order of their numbers: the index of a number, and the list without its value.
use Rattle.std.proofs.Common.{◌≡◌, ◌≢◌, ◌⊎◌, ℕ, suc, ◌<◌, ◌≤◌, Bool, true, false, cond, not, ltb, eqb, List, [], ◌∷◌, filter, Result, Ok, Err, refl, sym, ◌∙◌, ap, subst, arith, inl, inr}
use Rattle.std.specs.List.{remove}
use Rattle.std.proofs.lemmas.Bool.{ne_eqb}
use Rattle.std.proofs.lemmas.Bool.Decides.{eqb_tells}
use Rattle.teb_rules.specs.history.Ascending.{AllAbove, IsAscendingBy, next_place, place_of}
use Rattle.teb_rules.proofs.lemmas.history.Comparisons.{ltb_tells}
use Rattle.teb_rules.proofs.lemmas.history.AscendingLists.{above-mono}

module _ {V : Type 0} (key : V → ℕ) (n : ℕ) where
  abbrev pub without : List V → List V
  without vs = filter (λ v. not (eqb (key v) n)) vs

  pub without_above : (vs : List V) → AllAbove key n vs → vs ≡ without vs
  without_above [] h = refl
  without_above (v ∷ vs) h = rw (ne_eqb (key v) n (λ e. let l : n < key v = h.0 in omega arith)) (ap (λ (l : List V). v ∷ l) (without_above vs h.1))

  -- removing a number that is not in the list leaves the list unchanged
  pub without_missing : (vs : List V) (i : ℕ) → IsAscendingBy key vs → place_of key vs n ≡ Err i → vs ≡ without vs
  without_missing [] i a h = refl
  without_missing (v ∷ vs) i a h = go (λ j q. without_missing vs j a.1 q) (ltb_tells (key v) n) (eqb_tells (key v) n)
    where
      later : ((j : ℕ) → place_of key vs n ≡ Err j → vs ≡ without vs) → (r : Result ℕ ℕ) → place_of key vs n ≡ r → next_place r ≡ Err i → vs ≡ without vs
      later ih (Ok j) q e = absurd (cc)
      later ih (Err j) q e = ih j q

      go : ((j : ℕ) → place_of key vs n ≡ Err j → vs ≡ without vs) → ((ltb (key v) n ≡ true) × (key v < n)) ⊎ ((ltb (key v) n ≡ false) × (n ≤ key v)) → ((eqb (key v) n ≡ true) × (key v ≡ n))
          ⊎ ((eqb (key v) n ≡ false) × (key v ≢ n)) → v ∷ vs ≡ without (v ∷ vs)
      go ih (inl p) (inl q) = absurd (omega (arith, p.1, q.1))
      go ih (inl p) (inr q) = ap (λ (l : List V). v ∷ l) (later ih (place_of key vs n) refl (rw p.0 at h)) ∙ sym (ap (λ (b : Bool). cond (not b) (v ∷ without vs) (without vs)) q.0)
      go ih (inr p) (inl q) = absurd
          (let z : Ok 0 ≡ Err i = sym (ap (λ (b : Bool). cond b (next_place (place_of key vs n)) (cond (eqb (key v) n) (Ok 0) (Err 0))) p.0 ∙ ap (λ (b : Bool). cond b (Ok 0) (Err 0)) q.0) ∙ h in cc)
      go ih (inr p) (inr q) = without_above (v ∷ vs) ((let l : n < key v = omega (arith, p.1, q.1) in l), above-mono key n (key v) vs p.1 a.0)

  -- removing the value at the index of its number gives the list without that number
  pub without_found : (vs : List V) (i : ℕ) → IsAscendingBy key vs → place_of key vs n ≡ Ok i → remove vs i ≡ without vs
  without_found [] i a h = absurd (cc)
  without_found (v ∷ vs) i a h = go (λ j q. without_found vs j a.1 q) (ltb_tells (key v) n) (eqb_tells (key v) n)
    where
      later : ((j : ℕ) → place_of key vs n ≡ Ok j → remove vs j ≡ without vs) → (r : Result ℕ ℕ) → place_of key vs n ≡ r → next_place r ≡ Ok i → remove (v ∷ vs) i ≡ v ∷ without vs
      later ih (Err j) q e = absurd (cc)
      later ih (Ok j) q e =
          let s : suc j ≡ i = cc in
          subst (λ (k : ℕ). remove (v ∷ vs) k ≡ v ∷ without vs) s (ap (λ (l : List V). v ∷ l) (ih j q))

      go : ((j : ℕ) → place_of key vs n ≡ Ok j → remove vs j ≡ without vs) → ((ltb (key v) n ≡ true) × (key v < n)) ⊎ ((ltb (key v) n ≡ false) × (n ≤ key v)) → ((eqb (key v) n ≡ true) × (key v ≡ n))
          ⊎ ((eqb (key v) n ≡ false) × (key v ≢ n)) → remove (v ∷ vs) i ≡ without (v ∷ vs)
      go ih (inl p) (inl q) = absurd (omega (arith, p.1, q.1))
      go ih (inl p) (inr q) = later ih (place_of key vs n) refl (rw p.0 at h) ∙ sym (ap (λ (b : Bool). cond (not b) (v ∷ without vs) (without vs)) q.0)
      go ih (inr p) (inl q) =
          let z : Ok 0 ≡ Ok i = sym (ap (λ (b : Bool). cond b (next_place (place_of key vs n)) (cond (eqb (key v) n) (Ok 0) (Err 0))) p.0 ∙ ap (λ (b : Bool). cond b (Ok 0) (Err 0)) q.0) ∙ h in
          let s : 0 ≡ i = cc in
          subst (λ (k : ℕ). remove (v ∷ vs) k ≡ without (v ∷ vs)) s
          (without_above vs (subst (λ (m : ℕ). AllAbove key m vs) q.1 a.0) ∙ sym (ap (λ (b : Bool). cond (not b) (v ∷ without vs) (without vs)) q.0))
      go ih (inr p) (inr q) = absurd
          (let z : Err 0 ≡ Ok i = sym (ap (λ (b : Bool). cond b (next_place (place_of key vs n)) (cond (eqb (key v) n) (Ok 0) (Err 0))) p.0 ∙ ap (λ (b : Bool). cond b (Ok 0) (Err 0)) q.0) ∙ h in cc)
