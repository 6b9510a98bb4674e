-- Lists of rising numbers.
use Rattle.std.proofs.Common.{◌≡◌, ◌≢◌, ℕ, zero, suc, ◌+◌, ◌<◌, ◌≤◌, Bool, true, false, cond, if◌then◌else◌, List, [], ◌∷◌}
use Rattle.std.proofs.Common.{◌++◌, length, map, get_or, filter, nat_lt, inl, inr, refl, sym, ap, ◌∙◌, subst, arith}
use Rattle.std.specs.List.Sorted.{IsStrictlyIncreasing, IsNonDecreasingBy}
use Rattle.std.proofs.lemmas.Bool.{cases_lt, ltb-true, lt-ltb}
use mathlib.Core.Logic.{dite}
use native.Mathlib.Decide.{ℕ_discrete}
use native.Mathlib.Numerals.{unary_clauses}
use Rattle.turn_lock.specs.Counts.{total, same, times, count_from}
use Rattle.turn_lock.proofs.Counts.{same_yes, same_no}
use Rattle.session_tasks.specs.pool.Rising.{Rising}
use Rattle.session_tasks.specs.pool.Tallies.{inserted, merged}
use Rattle.session_tasks.proofs.lemmas.pool.Sums.{total_append, same_most}

pub rising_lower : (low m : ℕ) (xs : List ℕ) → m ≤ low → Rising low xs → Rising m xs
rising_lower low m [] l r = tt
rising_lower low m (x ∷ xs) l r = ((let a = r.0 in omega arith), r.1)

pub at_least : (low y : ℕ) (xs : List ℕ) → Rising low xs → 0 < times y xs → low ≤ y
at_least low y [] r h = absurd (omega arith)
at_least low y (x ∷ xs) r h = dite (ℕ_discrete y x)
    (λ (e : y ≡ x). let a = r.0 in omega arith)
    (λ (n : y ≢ x). let z = same_no y x n in let b = at_least (suc x) y xs r.1 (omega arith) in let a = r.0 in omega arith)

-- each number occurs at most once
pub rising_once : (low y : ℕ) (xs : List ℕ) → Rising low xs → times y xs ≤ 1
rising_once low y [] r = omega arith
rising_once low y (x ∷ xs) r = elim (cases_lt 0 (times y xs)) [
  | inl l ↦ (let b = at_least (suc x) y xs r.1 l in let n : y ≢ x = λ e. omega arith in let z = same_no y x n in let h = rising_once (suc x) y xs r.1 in omega arith)
  | inr l ↦ (let z = same_most y x in omega arith)
]

-- a greater number is appended at the end
pub rising_snoc : (low x : ℕ) (xs : List ℕ) → Rising low xs → low ≤ x → ((y : ℕ) → 0 < times y xs → y < x) → Rising low (xs ++ x ∷ [])
rising_snoc low x [] r l h = (l, tt)
rising_snoc low x (y ∷ ys) r l h = (
  r.0,
  rising_snoc (suc y) x ys r.1 (let s = same_yes y y refl in let b = h y (omega arith) in omega arith) (λ z p. h z (omega arith)),
)

-- the numbers before x are less than x
pub rising_before : (low x : ℕ) (xs zs : List ℕ) → Rising low (xs ++ x ∷ zs) → (y : ℕ) → 0 < times y xs → y < x
rising_before low x [] zs r y h = absurd (omega arith)
rising_before low x (w ∷ ws) zs r y h = dite (ℕ_discrete y w)
    (λ (e : y ≡ w). let t = total_append (same x) ws (x ∷ zs) in let s = same_yes x x refl in let b = at_least (suc w) x (ws ++ x ∷ zs) r.1 (omega arith) in omega arith)
    (λ (n : y ≢ w). let z = same_no y w n in rising_before (suc w) x ws zs r.1 y (omega arith))

pub rising_left : (low : ℕ) (xs ys : List ℕ) → Rising low (xs ++ ys) → Rising low xs
rising_left low [] ys r = tt
rising_left low (x ∷ xs) ys r = (r.0, rising_left (suc x) xs ys r.1)

pub rising_from : (n a : ℕ) → Rising a (count_from a n)
rising_from zero a = tt
rising_from (suc n) a = (omega arith, rising_from n (suc a))

pub rising_filter : (test : ℕ → Bool) (low : ℕ) (xs : List ℕ) → Rising low xs → Rising low (filter test xs)
rising_filter test low [] r = tt
rising_filter test low (x ∷ xs) r = go (test x) (rising_filter test (suc x) xs r.1)
  where
    go : (b : Bool) → Rising (suc x) (filter test xs) → Rising low (cond b (x ∷ filter test xs) (filter test xs))
    go true h = (r.0, h)
    go false h = rising_lower (suc x) low (filter test xs) (let a = r.0 in omega arith) h

-- a number is inserted at its place
pub inserted_total : (f : ℕ → ℕ) (x : ℕ) (ys : List ℕ) → total f (inserted x ys) ≡ f x + total f ys
inserted_total f x [] = refl
inserted_total f x (y ∷ ys) = go (nat_lt x y) (inserted_total f x ys)
  where
    go : (b : Bool) → total f (inserted x ys) ≡ f x + total f ys → total f (if b then x ∷ y ∷ ys else y ∷ inserted x ys) ≡ f x + (f y + total f ys)
    go true h = refl
    go false h = omega arith

pub merged_total : (f : ℕ → ℕ) (xs ys : List ℕ) → total f (merged xs ys) ≡ total f xs + total f ys
merged_total f [] ys = omega arith
merged_total f (x ∷ xs) ys = let i = inserted_total f x (merged xs ys) in let h = merged_total f xs ys in omega arith

not_less : (a b : ℕ) → nat_lt a b ≡ false → b ≤ a
not_less a b e = elim (cases_lt a b) [
  | inl l ↦ (let t : true ≡ false = sym (lt-ltb a b l) ∙ e in absurd (cc))
  | inr l ↦ l
]

inserted_rises : (low x : ℕ) (ys : List ℕ) → low ≤ x → Rising low ys → times x ys ≡ 0 → Rising low (inserted x ys)
inserted_rises low x [] l r n = (l, tt)
inserted_rises low x (y ∷ ys) l r n = go (nat_lt x y) refl (λ (m : suc y ≤ x). inserted_rises (suc y) x ys m r.1 (omega arith))
  where
    apart : x ≢ y
    apart e = absurd (let s = same_yes x y e in omega arith)

    go : (b : Bool) → nat_lt x y ≡ b → (suc y ≤ x → Rising (suc y) (inserted x ys)) → Rising low (if b then x ∷ y ∷ ys else y ∷ inserted x ys)
    go true e h = (l, (ltb-true x y e, r.1))
    go false e h = (r.0, h (let m = not_less x y e in let a = apart in omega arith))

pub merged_rises : (low : ℕ) (xs ys : List ℕ) → Rising low xs → Rising low ys → ((s : ℕ) → times s xs + times s ys ≤ 1) → Rising low (merged xs ys)
merged_rises low [] ys r q o = q
merged_rises low (x ∷ xs) ys r q o = inserted_rises low x (merged xs ys) r.0
    (merged_rises low xs ys (rising_lower (suc x) low xs (let a = r.0 in omega arith) r.1) q (λ s. let k = o s in omega arith))
    (let t = merged_total (same x) xs ys in let k = o x in let s = same_yes x x refl in omega arith)

-- two rising lists with the same numbers are equal
pub rising_same : (low : ℕ) (xs ys : List ℕ) → Rising low xs → Rising low ys → ((s : ℕ) → times s xs ≡ times s ys) → xs ≡ ys
rising_same low [] [] r q h = refl
rising_same low [] (y ∷ ys) r q h = absurd (let k = h y in let s = same_yes y y refl in omega arith)
rising_same low (x ∷ xs) [] r q h = absurd (let k = h x in let s = same_yes x x refl in omega arith)
rising_same low (x ∷ xs) (y ∷ ys) r q h = let others : xs ≡ ys = rising_same (suc x) xs ys r.1 (subst (λ (z : ℕ). Rising (suc z) ys) (sym first) q.1)
    (λ s. let k = h s in let e : same s x ≡ same s y = ap (same s) first in omega arith) in λ i. first i ∷ others i
  where
    below : y ≤ x
    below = at_least y x (y ∷ ys) ((let a : y ≤ y = omega arith in a), q.1) (let k = h x in let s = same_yes x x refl in omega arith)

    above : x ≤ y
    above = at_least x y (x ∷ xs) ((let a : x ≤ x = omega arith in a), r.1) (let k = h y in let s = same_yes y y refl in omega arith)

    first : x ≡ y
    first = let a = below in let b = above in omega arith

-- each number is less than the next
pub rising_increases : (low : ℕ) (xs : List ℕ) → Rising low xs → IsStrictlyIncreasing xs
rising_increases low [] r k l = absurd (omega arith)
rising_increases low (x ∷ []) r k l = absurd (omega arith)
rising_increases low (x ∷ y ∷ ys) r zero l = r.1.0
rising_increases low (x ∷ y ∷ ys) r (suc k) l = let h = rising_increases (suc x) (y ∷ ys) r.1 k (omega arith) in simp unary_clauses (simp unary_clauses at h)

times_there : {A : Type 0} (n : A → ℕ) (xs : List A) (i : ℕ) (d : A) → i < length xs → 0 < times (n (get_or xs i d)) (map n xs)
times_there n [] i d l = absurd (omega arith)
times_there n (x ∷ xs) zero d l = let s = same_yes (n x) (n x) refl in omega arith
times_there n (x ∷ xs) (suc i) d l = let h = times_there n xs i d (omega arith) in omega arith

-- a list that does not fall and has each number at most once rises
pub sorted_rises : {A : Type 0} (n : A → ℕ) (low : ℕ) (xs : List A) → IsNonDecreasingBy n xs → ((s : ℕ) → times s (map n xs) ≤ 1) → ((i : ℕ) (d : A) → i < length xs → low ≤ n (get_or xs i d))
    → Rising low (map n xs)
sorted_rises n low [] up once least = tt
sorted_rises n low (x ∷ xs) up once least = (
  least 0 x (omega arith),
  sorted_rises n (suc (n x)) xs (λ i j d a b. up (suc i) (suc j) d (omega arith) (omega arith)) (λ s. let k = once s in omega arith) more,
)
  where
    more : (i : ℕ) (d : _) → i < length xs → suc (n x) ≤ n (get_or xs i d)
    more i d l =
        let a : n x ≤ n (get_or xs i d) = up 0 (suc i) d (omega arith) (omega arith) in
        let o = once (n (get_or xs i d)) in
        let h = times_there n xs i d l in
        let b : n (get_or xs i d) ≢ n x = λ e. (let s = same_yes (n (get_or xs i d)) (n x) e in omega arith) in omega arith
