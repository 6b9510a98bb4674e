-- Lists that ascend by a key.
use Rattle.std.specs.Prelude.{ℕ, zero, suc, ◌<◌, ⊤, cond, ltb, eqb, List, [], ◌∷◌, Result, Ok, Err}

-- each element's key is above n
abbrev pub AllAbove : {A : Type 0} → (A → ℕ) → ℕ → List A → Type 0
AllAbove key n [] = ⊤
AllAbove key n (x ∷ xs) = (n < key x) × AllAbove key n xs

-- the keys rise
abbrev pub IsAscendingBy : {A : Type 0} → (A → ℕ) → List A → Type 0
IsAscendingBy key [] = ⊤
IsAscendingBy key (x ∷ xs) = AllAbove key (key x) xs × IsAscendingBy key xs

-- one place further on
abbrev pub next_place : Result ℕ ℕ → Result ℕ ℕ
next_place (Ok i) = Ok (suc i)
next_place (Err i) = Err (suc i)

-- the place of the element with the key n, or the place where it would go
abbrev pub place_of : {A : Type 0} → (A → ℕ) → List A → ℕ → Result ℕ ℕ
place_of key [] n = Err zero
place_of key (x ∷ xs) n = let r = place_of key xs n in cond (ltb (key x) n) (next_place r) (cond (eqb (key x) n) (Ok zero) (Err zero))

-- a at the place of its key, instead of the element that had the key
abbrev pub put_by : {A : Type 0} → (A → ℕ) → A → List A → List A
put_by key a [] = a ∷ []
put_by key a (x ∷ xs) = let r = put_by key a xs in cond (ltb (key x) (key a)) (x ∷ r) (a ∷ cond (eqb (key x) (key a)) xs (x ∷ xs))
