-- How often a number occurs in a list, and sums over the views.
use Rattle.std.proofs.Common.{◌≡◌, ◌≢◌, ℕ, zero, suc, ◌+◌, ◌<◌, ◌≤◌, List, [], ◌∷◌, ◌++◌, set, sym, refl, ap, ◌∙◌, eq-eqb, ne_eqb, arith, if◌then◌else◌}
use mathlib.Core.Option.{some, some-injective, some-ne-none}
use mathlib.Core.Logic.{dite}
use native.Mathlib.Decide.{ℕ_discrete, dec_le}
use lib.ListN.{get_elem?}
use Rattle.turn_lock.specs.Counts.{total, same, times, count_from, without, IsOnceWithin}

module _ {A : Type 0} (f : A → ℕ) where
  pub total_set : (l : List A) (i : ℕ) (a b : A) → get_elem? l i ≡ some a → total f (set l i b) + f a ≡ total f l + f b
  total_set [] i a b e = absurd (some-ne-none a (sym e))
  total_set (x ∷ xs) zero a b e = let s : f x ≡ f a = ap f (some-injective x a e) in omega arith
  total_set (x ∷ xs) (suc i) a b e = let h = total_set xs i a b e in omega arith

  pub total_snoc : (l : List A) (a : A) → total f (l ++ a ∷ []) ≡ total f l + f a
  total_snoc [] a = omega arith
  total_snoc (x ∷ xs) a = let h = total_snoc xs a in omega arith

  pub total_at : (l : List A) (i : ℕ) (a : A) → get_elem? l i ≡ some a → f a ≤ total f l
  total_at [] i a e = absurd (some-ne-none a (sym e))
  total_at (x ∷ xs) zero a e = let s : f x ≡ f a = ap f (some-injective x a e) in omega arith
  total_at (x ∷ xs) (suc i) a e = let h = total_at xs i a e in omega arith

  pub total_two : (l : List A) (i j : ℕ) (a b : A) → i ≢ j → get_elem? l i ≡ some a → get_elem? l j ≡ some b → f a + f b ≤ total f l
  total_two [] i j a b n e d = absurd (some-ne-none a (sym e))
  total_two (x ∷ xs) zero zero a b n e d = absurd (n refl)
  total_two (x ∷ xs) zero (suc j) a b n e d = let s : f x ≡ f a = ap f (some-injective x a e) in let h = total_at xs j b d in omega arith
  total_two (x ∷ xs) (suc i) zero a b n e d = let s : f x ≡ f b = ap f (some-injective x b d) in let h = total_at xs i a e in omega arith
  total_two (x ∷ xs) (suc i) (suc j) a b n e d = let h = total_two xs i j a b (λ s. n (ap suc s)) e d in omega arith

pub same_yes : (a b : ℕ) → a ≡ b → same a b ≡ 1
same_yes a b e = ap (λ t. if t then 1 else 0) (eq-eqb a b e)

pub same_no : (a b : ℕ) → a ≢ b → same a b ≡ 0
same_no a b n = ap (λ t. if t then 1 else 0) (ne_eqb a b n)

pub times_append : (o : ℕ) (xs ys : List ℕ) → times o (xs ++ ys) ≡ times o xs + times o ys
times_append o [] ys = omega arith
times_append o (x ∷ xs) ys = let h = times_append o xs ys in omega arith

-- removing the first o removes one occurrence of it
pub times_without : (o k : ℕ) (xs : List ℕ) → 0 < times o xs → times k (without o xs) + same k o ≡ times k xs
times_without o k [] h = absurd (omega arith)
times_without o k (x ∷ xs) h = dite (ℕ_discrete o x)
    (λ (e : o ≡ x). ap (λ b. times k (if b then xs else x ∷ without o xs) + same k o) (eq-eqb o x e) ∙ (let s : same k o ≡ same k x = ap (same k) e in omega arith))
    (λ (n : o ≢ x). ap (λ b. times k (if b then xs else x ∷ without o xs) + same k o) (ne_eqb o x n) ∙ (let z = same_no o x n in let r = times_without o k xs (omega arith) in omega arith))

-- one more number is added at the end
pub once_up : (a b k t u : ℕ) → a ≤ b → IsOnceWithin a b k t → u ≡ t + same k b → IsOnceWithin a (b + 1) k u
once_up a b k t u le s e = let in_ = s.0 in let below = s.1 in let above = s.2 in dite (ℕ_discrete k b)
    (λ (here : k ≡ b). let one = same_yes k b here in let none = above (omega arith) in ((λ _ _. omega arith), (λ h. absurd (omega arith)), λ h. absurd (omega arith)))
    (λ (other : k ≢ b). let zero_ = same_no k b other in (
      (λ h i. let one = in_ h (omega arith) in omega arith),
      (λ h. let none = below h in omega arith),
      λ h. let none = above (omega arith) in
          omega arith,
    ))

-- the first number is removed
pub once_on : (a b k t u : ℕ) → a < b → IsOnceWithin a b k t → u + same k a ≡ t → IsOnceWithin (a + 1) b k u
once_on a b k t u lt s e = let in_ = s.0 in let below = s.1 in let above = s.2 in dite (ℕ_discrete k a)
    (λ (here : k ≡ a). let one = same_yes k a here in let was = in_ (omega arith) (omega arith) in ((λ h _. absurd (omega arith)), (λ _. omega arith), λ h. absurd (omega arith)))
    (λ (other : k ≢ a). let zero_ = same_no k a other in (
      (λ h i. let one = in_ (omega arith) i in omega arith),
      (λ h. let none = below (omega arith) in omega arith),
      λ h. let none = above h in
          omega arith,
    ))

-- no number occurs twice
pub once_most : (a b k t : ℕ) → IsOnceWithin a b k t → t ≤ 1
once_most a b k t s = let in_ = s.0 in let below = s.1 in let above = s.2 in
    dite (dec_le a k) (λ le. dite (dec_le b k) (λ out. let z = above out in omega arith) (λ n. let o = in_ le (omega arith) in omega arith)) (λ n. let z = below (omega arith) in omega arith)

-- a number that occurs is within the bounds
pub once_low : (a b k t : ℕ) → IsOnceWithin a b k t → 0 < t → a ≤ k
once_low a b k t s some_ = dite (dec_le a k) (λ le. le) (λ n. let z = s.1 (omega arith) in absurd (omega arith))

pub once_high : (a b k t : ℕ) → IsOnceWithin a b k t → 0 < t → k < b
once_high a b k t s some_ = dite (dec_le b k) (λ le. let z = s.2 le in absurd (omega arith)) (λ n. omega arith)

pub times-count_from : (n a o : ℕ) → IsOnceWithin a (a + n) o (times o (count_from a n))
times-count_from zero a o = ((λ h i. absurd (omega arith)), (λ _. refl), λ _. refl)
times-count_from (suc n) a o = let r = times-count_from n (suc a) o in let in_ = r.0 in let below = r.1 in let above = r.2 in dite (ℕ_discrete o a)
    (λ (here : o ≡ a). let one = same_yes o a here in let none_ = below (omega arith) in ((λ _ _. omega arith), (λ h. absurd (omega arith)), λ h. absurd (omega arith)))
    (λ (other : o ≢ a). let zero_ = same_no o a other in
    ((λ h i. let one = in_ (omega arith) (omega arith) in omega arith), (λ h. let z = below (omega arith) in omega arith), λ h. let z = above (omega arith) in omega arith))
