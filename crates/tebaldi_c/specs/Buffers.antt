-- What a caller's buffer has after a call.
use Rattle.std.specs.Prelude.{◌≡◌, ℕ, List, Option, Some, None, take, drop, length, ◌++◌}

-- as much of a list as fits, over the front of another
abbrev pub laid_over : {A : Type 0} → List A → List A → List A
laid_over xs ys = take (length ys) xs ++ drop (length xs) ys

-- there is a list, as much of it as fits is over the front of a buffer, and this is its length
abbrev pub IsTold : {A : Type 0} → Option (List A) → List A → List A → ℕ → Type 0
IsTold None old new n = ⊥
IsTold (Some xs) old new n = (n ≡ length xs) × (new ≡ laid_over xs old)
