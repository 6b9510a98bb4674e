-- Sums over lists.
use Rattle.std.proofs.Common.{◌≡◌, ℕ, zero, suc, ◌+◌, ◌≤◌, List, [], ◌∷◌, ◌++◌, length, refl, sym, ap, arith}
use mathlib.Core.Option.{some, some-injective, some-ne-none}
use mathlib.Core.Logic.{dite}
use native.Mathlib.Decide.{ℕ_discrete}
use lib.ListN.{get_elem?}
use Rattle.turn_lock.specs.Counts.{total, same}
use Rattle.turn_lock.proofs.Counts.{same_yes, same_no, total_at}

pub total_append : {A : Type 0} (f : A → ℕ) (xs ys : List A) → total f (xs ++ ys) ≡ total f xs + total f ys
total_append f [] ys = omega arith
total_append f (x ∷ xs) ys = let h = total_append f xs ys in omega arith

-- the weight of each number is one
abbrev pub one : ℕ → ℕ
one n = 1

pub total_one : (xs : List ℕ) → total one xs ≡ length xs
total_one [] = refl
total_one (x ∷ xs) = let h = total_one xs in omega arith

pub same_most : (a b : ℕ) → same a b ≤ 1
same_most a b = dite (ℕ_discrete a b) (λ e. let s = same_yes a b e in omega arith) (λ n. let s = same_no a b n in omega arith)

-- if a list weighs nothing by g, and each element without weight by g has none by f, the list weighs nothing by f
none_of : {A : Type 0} (f g : A → ℕ) (xs : List A) → total g xs ≡ 0 → ((i : ℕ) (a : A) → get_elem? xs i ≡ some a → g a ≡ 0 → f a ≡ 0) → total f xs ≡ 0
none_of f g [] e h = refl
none_of f g (x ∷ xs) e h =
    let a : f x ≡ 0 = h 0 x refl (omega arith) in
    let b = none_of f g xs (omega arith) (λ i y at z. h (suc i) y at z) in omega arith

pub total_alone : {A : Type 0} (f g : A → ℕ) (xs : List A) (k : ℕ) (v : A) → get_elem? xs k ≡ some v → total g xs ≡ g v → ((i : ℕ) (a : A) → get_elem? xs i ≡ some a → g a ≡ 0 → f a ≡ 0)
    → total f xs ≡ f v
total_alone f g [] k v at e h = absurd (some-ne-none v (sym at))
total_alone f g (x ∷ xs) zero v at e h =
    let s : f x ≡ f v = ap f (some-injective x v at) in
    let t : g x ≡ g v = ap g (some-injective x v at) in
    let b = none_of f g xs (omega arith) (λ i y a z. h (suc i) y a z) in omega arith
total_alone f g (x ∷ xs) (suc k) v at e h =
    let l = total_at g xs k v at in
    let a : f x ≡ 0 = h 0 x refl (omega arith) in
    let b = total_alone f g xs k v at (omega arith) (λ i y t z. h (suc i) y t z) in omega arith
