-- There are at most n distinct numbers below n; if there are n, each number below n is one of them.
use Rattle.std.proofs.Common.{◌≡◌, ◌≢◌, ◌⊎◌, ℕ, zero, suc, ◌<◌, ◌≤◌, Bool, true, not, eqb, List, [], ◌∷◌, length, refl, sym, ◌∙◌, ap, subst, inl, inr, arith, filter, eq-eqb, ne_eqb, map}
use Rattle.std.proofs.lemmas.Bool.{cases_eq, not-true, not_from_false, eqb-false}
use Rattle.teb_rules.specs.Serializes.{In, Pairs}
use Rattle.teb_rules.proofs.lemmas.laws.Lists.{Distinct}
use Rattle.teb_rules.proofs.lemmas.laws.Serial.{filter-In, Distinct-filter}

pub filter_all : (p : ℕ → Bool) (xs : List ℕ) → ((u : ℕ) → In u xs → p u ≡ true) → filter p xs ≡ xs
filter_all p [] f = refl
filter_all p (x ∷ xs) f = rw (f x (inl refl)) (ap (λ (ys : List ℕ). x ∷ ys) (filter_all p xs (λ u i. f u (inr i))))

without : (n : ℕ) (xs : List ℕ) → Distinct xs → length xs ≤ suc (length (filter (λ u. not (eqb u n)) xs))
without n [] d = omega arith
without n (x ∷ xs) d = elim (cases_eq x n) [
  | inl e ↦ (let a : filter (λ u. not (eqb u n)) xs ≡ xs = filter_all (λ u. not (eqb u n)) xs (λ u i. not_from_false _ (ne_eqb u n (λ q. d.0 u i (e ∙ sym q)))) in
      let b = eq-eqb x n e in rw (b, a) (omega arith))
  | inr ne ↦ (let h = without n xs d.1 in let b = ne_eqb x n ne in rw b (omega arith))
]

pub distinct-length : (n : ℕ) (xs : List ℕ) → Distinct xs → ((u : ℕ) → In u xs → u < n) → length xs ≤ n
distinct-length zero [] d f = omega arith
distinct-length zero (x ∷ xs) d f = absurd (let z = f x (inl refl) in omega arith)
distinct-length (suc n) xs d f =
    let h = distinct-length n (filter (λ u. not (eqb u n)) xs) (Distinct-filter (λ u. not (eqb u n)) xs d)
    (λ u i. let r = filter-In (λ u. not (eqb u n)) u xs i in let z = f u r.0 in let y = eqb-false u n (not-true _ r.1) in omega arith) in
    let w = without n xs d in omega arith

pub In_or_not : (r : ℕ) (xs : List ℕ) → In r xs ⊎ (In r xs → ⊥)
In_or_not r [] = inr (λ i. i)
In_or_not r (x ∷ xs) = elim (cases_eq x r) [
  | inl e ↦ inl (inl e)
  | inr ne ↦ elim (In_or_not r xs) [ inl i ↦ inl (inr i) | inr n ↦ inr (λ j. elim j [ inl q ↦ ne q | inr k ↦ n k ]) ]
]

pub all_hit : (n r : ℕ) (xs : List ℕ) → Distinct xs → ((u : ℕ) → In u xs → u < n) → r < n → n ≤ length xs → In r xs
all_hit n r xs d f h k = elim (In_or_not r xs) [
  | inl i ↦ i
  | inr o ↦ absurd (let z = distinct-length n (r ∷ xs) ((λ u i q. o (subst (λ (y : ℕ). In y xs) (sym q) i)), d) (λ u i. elim i [ inl q ↦ subst (λ (y : ℕ). y < n) q h | inr j ↦ f u j ]) in omega arith)
]

pub In-map_from : (f : ℕ → ℕ) (xs : List ℕ) (y : ℕ) → In y (map f xs) → (x : ℕ) × In x xs × (f x ≡ y)
In-map_from f [] y i = absurd i
In-map_from f (x ∷ xs) y i = elim i [ inl e ↦ (x, inl refl, e) | inr j ↦ (let r = In-map_from f xs y j in (r.0, inr r.1, r.2)) ]

pub Distinct-map : (f : ℕ → ℕ) (xs : List ℕ) → Pairs (λ t u. f t ≢ f u) xs → Distinct (map f xs)
Distinct-map f [] d = tt
Distinct-map f (x ∷ xs) d = ((λ y i e. let r = In-map_from f xs y i in d.0 r.0 r.1 (e ∙ sym r.2)), Distinct-map f xs d.1)

pub length-map : (f : ℕ → ℕ) (xs : List ℕ) → length (map f xs) ≡ length xs
length-map f [] = refl
length-map f (x ∷ xs) = ap suc (length-map f xs)
