-- Lists of numbers by index: the element at an index, and the first or last element that passes a test.
use Rattle.std.proofs.Common.{◌≡◌, ℕ, zero, suc, ◌<◌, Bool, true, false, cond, eqb, List, [], ◌∷◌, length, get_or, slice_get}
use Rattle.std.proofs.Common.{find, Option, Some, None, refl, sym, ap, subst, ◌∙◌, arith, inl, inr, eqb-true, eq-eqb}
use Rattle.std.proofs.lemmas.Bool.{both_ways, false_from_ne_true, or_cases, or_left, or_right}
use Rattle.std.proofs.lemmas.Option.{slice_get-get_or}
use Rattle.teb_rules.specs.Serializes.{In, Pairs}
use Rattle.teb_rules.specs.Setup.{among}
use Rattle.version_chain.specs.Lists.{first_place, last_place}
use Rattle.version_chain.proofs.Places.{IsFirst, IsLast, first_place-found, last_place-found}

pub among_In : (u : ℕ) (us : List ℕ) → among u us ≡ true → In u us
among_In u [] i = absurd (cc)
among_In u (v ∷ vs) i = elim (or_cases (eqb v u) (among u vs) i) [ inl e ↦ inl (eqb-true v u e) | inr j ↦ inr (among_In u vs j) ]

pub In_among : (u : ℕ) (us : List ℕ) → In u us → among u us ≡ true
In_among u [] i = absurd i
In_among u (v ∷ vs) i = elim i [ inl e ↦ or_left (eqb v u) (among u vs) (eq-eqb v u e) | inr j ↦ or_right (eqb v u) (among u vs) (In_among u vs j) ]

pub at-In : (us : List ℕ) (i : ℕ) → i < length us → In (get_or us i 0) us
at-In [] i h = absurd (omega arith)
at-In (u ∷ us) zero h = inl refl
at-In (u ∷ us) (suc i) h = inr (at-In us i (omega arith))

-- an element of the list has an index
pub In-at : (u : ℕ) (us : List ℕ) → In u us → (i : ℕ) × (i < length us) × (get_or us i 0 ≡ u)
In-at u [] i = absurd i
In-at u (v ∷ vs) i = elim i [ inl e ↦ (zero, omega arith, e) | inr j ↦ (let r = In-at u vs j in (suc r.0, (let z = r.1 in omega arith), r.2)) ]

pub Pairs-at : (R : ℕ → ℕ → Type 0) (us : List ℕ) (i j : ℕ) → Pairs R us → i < j → j < length us → R (get_or us i 0) (get_or us j 0)
Pairs-at R [] i j p a b = absurd (omega arith)
Pairs-at R (u ∷ us) i zero p a b = absurd (omega arith)
Pairs-at R (u ∷ us) zero (suc j) p a b = p.0 (get_or us j 0) (at-In us j (omega arith))
Pairs-at R (u ∷ us) (suc i) (suc j) p a b = Pairs-at R us i j p.1 (omega arith) (omega arith)

-- a search whose test only one element passes finds that element
pub find_only : (q : ℕ → Bool) (us : List ℕ) (w : ℕ) → In w us → q w ≡ true → ((u : ℕ) → In u us → q u ≡ true → u ≡ w) → find q us ≡ Some w
find_only q [] w i h f = absurd i
find_only q (u ∷ us) w i h f = go (q u) refl (λ j. find_only q us w j h (λ v k. f v (inr k)))
  where
    go : (b : Bool) → q u ≡ b → (In w us → find q us ≡ Some w) → cond b (Some u) (find q us) ≡ Some w
    go true e ih = ap (λ (z : ℕ). Some z) (f u (inl refl) e)
    go false e ih = ih (elim i [ inl k ↦ absurd (both_ways (q w) (subst (λ (z : ℕ). q z ≡ false) k e) h) | inr j ↦ j ])

pub find_nothing : (q : ℕ → Bool) (us : List ℕ) → ((u : ℕ) → In u us → ⊥) → find q us ≡ None
find_nothing q [] f = refl
find_nothing q (u ∷ us) f = absurd (f u (inl refl))

-- the index that a search gave is that of the last, or first, element that passes
pub is_last : (p : ℕ → Bool) (us : List ℕ) (o : Option ℕ) → o ≡ last_place p us → IsLast p us o
is_last p us o e = subst (λ (r : Option ℕ). IsLast p us r) (sym e) (last_place-found p us)

is_first : (p : ℕ → Bool) (us : List ℕ) (o : Option ℕ) → o ≡ first_place p us → IsFirst p us o
is_first p us o e = subst (λ (r : Option ℕ). IsFirst p us r) (sym e) (first_place-found p us)

pub own_found : (us : List ℕ) (u i : ℕ) → Some i ≡ first_place (λ w. eqb w u) us → (i < length us) × (slice_get us i ≡ Some u)
own_found us u i e = let r = is_first (λ w. eqb w u) us (Some i) e in (r.0, slice_get-get_or us i 0 r.0 ∙ ap (λ (z : ℕ). Some z) (eqb-true _ _ r.1))

pub own_there : (us : List ℕ) (u i : ℕ) → Some i ≡ first_place (λ w. eqb w u) us → among u us ≡ true
own_there us u i e = let r = is_first (λ w. eqb w u) us (Some i) e in In_among u us (subst (λ (z : ℕ). In z us) (eqb-true _ _ r.1) (at-In us i r.0))

pub own_absent : (us : List ℕ) (u : ℕ) → None ≡ first_place (λ w. eqb w u) us → among u us ≡ false
own_absent us u e = false_from_ne_true _ (λ q. let k = In-at u us (among_In u us q) in both_ways _ (is_first (λ w. eqb w u) us None e k.0 (omega arith) k.1) (eq-eqb _ _ k.2))
