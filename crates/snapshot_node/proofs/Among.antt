-- Membership in ascending lists of transactions.
use Rattle.std.proofs.Common.{◌≡◌, ℕ, ◌≤◌, Bool, true, false, cond, eqb, ◌||◌, List, [], ◌∷◌, filter, inl, inr, refl, sym, ◌∙◌, ap, arith}
use Rattle.std.proofs.lemmas.Bool.{both_ways, cases_order, eqb-true, eq-eqb, ne_eqb, or_cases, or_left, or_right}
use Rattle.teb_rules.specs.declared.names.Txn.{Txn}
use Rattle.teb_rules.specs.history.Ascending.{AllAbove, IsAscendingBy}
use Rattle.teb_rules.specs.history.Live.{number_of}
use Rattle.access_book.specs.Books.{is_among}

-- transactions with equal numbers are equal
pub one_of : (t u : Txn) → number_of t ≡ number_of u → t ≡ u
one_of t u e = ap (λ (n : ℕ). record { 0 = n }) e

-- a list whose numbers are all above n has no member numbered n or less
pub among_above : (n u : ℕ) (xs : List Txn) → u ≤ n → AllAbove number_of n xs → is_among u xs ≡ false
among_above n u [] l h = refl
among_above n u (x ∷ xs) l h = rw (ne_eqb x.0 u (λ e. omega (arith, h.0))) (among_above n u xs l h.1)

-- a member of a filtered list is a member of the list
pub among_part : (p : Txn → Bool) (u : ℕ) (xs : List Txn) → is_among u (filter p xs) ≡ true → is_among u xs ≡ true
among_part p u [] h = h
among_part p u (x ∷ xs) h = go (p x) h (among_part p u xs)
  where
    go : (b : Bool) → is_among u (cond b (x ∷ filter p xs) (filter p xs)) ≡ true → (is_among u (filter p xs) ≡ true → is_among u xs ≡ true) → is_among u (x ∷ xs) ≡ true
    go true h ih = elim (or_cases (eqb x.0 u) (is_among u (filter p xs)) h) [ inl e ↦ or_left _ (is_among u xs) e | inr j ↦ or_right (eqb x.0 u) _ (ih j) ]
    go false h ih = or_right (eqb x.0 u) _ (ih h)

-- two ascending lists with the same members are equal
pub among_same : (xs ys : List Txn) → IsAscendingBy number_of xs → IsAscendingBy number_of ys → ((u : ℕ) → is_among u xs ≡ is_among u ys) → xs ≡ ys
among_same [] [] a b h = refl
among_same [] (y ∷ ys) a b h = absurd (both_ways _ (sym (h y.0)) (or_left _ _ (eq-eqb y.0 y.0 refl)))
among_same (x ∷ xs) [] a b h = absurd (both_ways _ (h x.0) (or_left _ _ (eq-eqb x.0 x.0 refl)))
among_same (x ∷ xs) (y ∷ ys) a b h = elim (cases_order x.0 y.0) [
  | inl e ↦ (λ j. one_of x y e j ∷ among_same xs ys a.1 b.1 (rest e) j)
  | inr o ↦ elim o [
    | inl l ↦ absurd (both_ways _ (h x.0 ∙ ap (λ (c : Bool). c || is_among x.0 ys) (ne_eqb y.0 x.0 (λ k. omega arith)) ∙ among_above y.0 x.0 ys (omega arith) b.0) (or_left _ _ (eq-eqb x.0 x.0 refl)))
    | inr l ↦ absurd (both_ways _ (sym (h y.0) ∙ ap (λ (c : Bool). c || is_among y.0 xs) (ne_eqb x.0 y.0 (λ k. omega arith)) ∙ among_above x.0 y.0 xs (omega arith) a.0)
        (or_left _ _ (eq-eqb y.0 y.0 refl)))
  ]
]
  where
    rest : x.0 ≡ y.0 → (u : ℕ) → is_among u xs ≡ is_among u ys
    rest e u = go (eqb x.0 u) refl (eqb y.0 u) refl (h u)
      where
        go : (b : Bool) → eqb x.0 u ≡ b → (c : Bool) → eqb y.0 u ≡ c → (b || is_among u xs) ≡ (c || is_among u ys) → is_among u xs ≡ is_among u ys
        go true p c q k = let w = eqb-true x.0 u p in among_above x.0 u xs (omega arith) a.0 ∙ sym (among_above y.0 u ys (omega arith) b.0)
        go false p true q k = absurd (both_ways _ p (ap (λ (n : ℕ). eqb n u) e ∙ q))
        go false p false q k = k
