-- How often a number stands in a list.
use Rattle.std.specs.Prelude.{◌≡◌, ℕ, zero, suc, ◌+◌, ◌<◌, ◌≤◌, ◌==◌, if◌then◌else◌, List, [], ◌∷◌}

-- f of each, added up
abbrev pub total : {A : Type 0} → (A → ℕ) → List A → ℕ
total f [] = 0
total f (x ∷ xs) = f x + total f xs

-- 1 where the two are the same number, and else 0
abbrev pub same : ℕ → ℕ → ℕ
same a b = if a == b then 1 else 0

-- how often x stands in the list
abbrev pub times : ℕ → List ℕ → ℕ
times x ys = total (same x) ys

-- x stands in the list
abbrev pub Has : List ℕ → ℕ → Type 0
Has ys x = 0 < times x ys

-- each number from 1 to n stands in the list
abbrev pub HasAll : ℕ → List ℕ → Type 0
HasAll n ys = (x : ℕ) → 1 ≤ x → x ≤ n → Has ys x

-- the count is 1 where a ≤ k < b, and else 0
abbrev pub IsOnceWithin : ℕ → ℕ → ℕ → ℕ → Type 0
IsOnceWithin a b k count = (a ≤ k → k < b → count ≡ 1) × (k < a → count ≡ 0) × (b ≤ k → count ≡ 0)

-- n numbers, from a upwards
abbrev pub count_from : ℕ → ℕ → List ℕ
count_from a zero = []
count_from a (suc n) = a ∷ count_from (suc a) n

-- the list without the first x
abbrev pub without : ℕ → List ℕ → List ℕ
without x [] = []
without x (y ∷ ys) = if x == y then ys else y ∷ without x ys
