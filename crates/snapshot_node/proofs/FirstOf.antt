-- The first element of an ascending list that has a property, searched from a number on.
use Rattle.std.specs.Prelude.{IsTrue}
use Rattle.std.proofs.Common.{◌≡◌, ℕ, zero, suc, ◌+◌, ◌<◌, ◌≤◌, Bool, true, false, cond, leb, le-leb, eqb, List, [], ◌∷◌, ◌⊎◌, inl, inr, length, filter, get_or, Some, refl, sym, subst, arith}
use Rattle.std.proofs.lemmas.Bool.{cases_lt, both_ways, or_cases, or_left, or_right, eqb-true}
use Rattle.teb_rules.specs.declared.names.Txn.{Txn}
use Rattle.teb_rules.specs.history.Ascending.{AllAbove, IsAscendingBy}
use Rattle.teb_rules.specs.history.Live.{number_of}
use Rattle.access_book.specs.Books.{is_among}
use Rattle.snapshot_node.specs.Pivots.{IsLeast}
use Rattle.snapshot_node.proofs.Among.{among_above}

-- a member of a list whose numbers are all above n is numbered above n
among_over : (n u : ℕ) (xs : List Txn) → AllAbove number_of n xs → is_among u xs ≡ true → n < u
among_over n u xs a h = elim (cases_lt n u) [ inl l ↦ l | inr l ↦ absurd (both_ways (is_among u xs) (among_above n u xs l a) h) ]

-- a member numbered m or above is a member of the part from m on
pub among_from : (m u : ℕ) (xs : List Txn) → m ≤ u → is_among u xs ≡ true → is_among u (filter (λ w. leb m w.0) xs) ≡ true
among_from m u [] l h = absurd (cc)
among_from m u (x ∷ xs) l h = go (leb m x.0) refl (among_from m u xs l) (or_cases (eqb x.0 u) (is_among u xs) h)
  where
    go : (b : Bool) → leb m x.0 ≡ b → (is_among u xs ≡ true → is_among u (filter (λ w. leb m w.0) xs) ≡ true) → (eqb x.0 u ≡ true) ⊎ (is_among u xs ≡ true)
        → is_among u (cond b (x ∷ filter (λ w. leb m w.0) xs) (filter (λ w. leb m w.0) xs)) ≡ true
    go true e ih (inl q) = or_left (eqb x.0 u) _ q
    go true e ih (inr j) = or_right (eqb x.0 u) _ (ih j)
    go false e ih (inl q) = absurd (both_ways (leb m x.0) e (le-leb m x.0 (let y = eqb-true x.0 u q in omega arith)))
    go false e ih (inr j) = ih j

module _ (P : ℕ → Type 0) (d : Txn) where
  -- no element of a list before place i has P
  abbrev pub NoneBefore : List Txn → ℕ → Type 0
  NoneBefore xs i = (j : ℕ) → j < i → P (get_or xs j d).0 → ⊥

  pub none_yet : (xs : List Txn) → NoneBefore xs 0
  none_yet xs = λ j l p. absurd (omega arith)

  pub none_more : (xs : List Txn) (i : ℕ) → NoneBefore xs i → (P (get_or xs i d).0 → ⊥) → NoneBefore xs (i + 1)
  none_more xs i h n = λ j l p. elim (cases_lt j i) [ inl m ↦ h j m p | inr m ↦ n (subst (λ (k : ℕ). P (get_or xs k d).0) (let e : j ≡ i = omega arith in e) p) ]

  first_least : (xs : List Txn) (i u : ℕ) → IsAscendingBy number_of xs → i < length xs → NoneBefore xs i → is_among u xs ≡ true → P u → (get_or xs i d).0 ≤ u
  first_least [] i u a l none h p = absurd (omega arith)
  first_least (x ∷ xs) zero u a l none h p = elim (or_cases (eqb x.0 u) (is_among u xs) h) [
    | inl e ↦ (let y = eqb-true x.0 u e in omega arith)
    | inr j ↦ (let y = among_over x.0 u xs a.0 j in omega arith)
  ]
  first_least (x ∷ xs) (suc i) u a l none h p = elim (or_cases (eqb x.0 u) (is_among u xs) h) [
    | inl e ↦ absurd (none zero (omega arith) (subst P (sym (eqb-true x.0 u e)) p))
    | inr j ↦ first_least xs i u a.1 (omega arith) (λ k m q. none (suc k) (omega arith) q) j p
  ]

  none_at_all : (xs : List Txn) (i u : ℕ) → length xs ≤ i → NoneBefore xs i → is_among u xs ≡ true → P u → ⊥
  none_at_all [] i u l none h p = absurd (cc)
  none_at_all (x ∷ xs) zero u l none h p = absurd (omega arith)
  none_at_all (x ∷ xs) (suc i) u l none h p = elim (or_cases (eqb x.0 u) (is_among u xs) h) [
    | inl e ↦ none zero (omega arith) (subst P (sym (eqb-true x.0 u e)) p)
    | inr j ↦ none_at_all xs i u (omega arith) (λ k m q. none (suc k) (omega arith) q) j p
  ]

  -- a search in a list that contains every transaction with P
  module _ (xs : List Txn) (listed : (u : ℕ) → P u → IsTrue (is_among u xs)) where
    pub first_is : IsAscendingBy number_of xs → (i : ℕ) → i < length xs → NoneBefore xs i → P (get_or xs i d).0 → IsLeast P (Some (get_or xs i d))
    first_is a i l none p = (p, λ u q. first_least xs i u a l none (listed u q) q)

    pub first_not : (i : ℕ) → length xs ≤ i → NoneBefore xs i → (u : ℕ) → P u → ⊥
    first_not i l none u p = none_at_all xs i u l none (listed u p) p
