-- Lists without the last of their values that pass a test.
use Rattle.std.specs.Prelude.{◌≡◌, ℕ, zero, suc, ◌<◌, Bool, true, false, cond, List, [], ◌∷◌, length, get_or, Option, MatchOption}
use Rattle.std.specs.List.{list_any}

-- r is the last place whose value passes, if there is one
abbrev pub IsLastPlace : {A : Type 0} → (A → Bool) → List A → Option ℕ → Type 0
IsLastPlace {A} p xs r = MatchOption r
    ((k : ℕ) (d : A) → k < length xs → p (get_or xs k d) ≡ false)
    (λ i. (i < length xs) × ((d : A) → p (get_or xs i d) ≡ true) × ((k : ℕ) (d : A) → i < k → k < length xs → p (get_or xs k d) ≡ false))

-- the list without the last value that passes
abbrev pub without_last : {A : Type 0} → (A → Bool) → List A → List A
without_last p [] = []
without_last p (x ∷ xs) = cond (list_any p xs) (x ∷ without_last p xs) (cond (p x) xs (x ∷ xs))

-- without the last n
abbrev pub without_lasts : {A : Type 0} → ℕ → (A → Bool) → List A → List A
without_lasts zero p xs = xs
without_lasts (suc n) p xs = without_last p (without_lasts n p xs)
