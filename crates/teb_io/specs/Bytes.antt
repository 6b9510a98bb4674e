-- What is left of the bytes of a source, and what was added to those of a sink, where they are known.
use Rattle.std.specs.Prelude.{◌≡◌, ℕ, ◌<◌, ◌≤◌, List, length, take, drop, Option, None, Some}
use Rattle.std.specs.Io.KnownBytes.{Appends}

-- the first n of the known bytes are taken
abbrev pub Takes : Option (List ℕ) → Option (List ℕ) → ℕ → Type 0
Takes None new n = Unit {0}
Takes (Some xs) None n = ⊥
Takes (Some xs) (Some ys) n = (n ≤ length xs) × (ys ≡ drop n xs)

-- some of the first n of them
abbrev pub TakesUpTo : ℕ → Option (List ℕ) → Option (List ℕ) → Type 0
TakesUpTo n old new = (k : ℕ) × (k ≤ n) × Takes old new k

-- a prefix of the text was added, and not all of it
abbrev pub AppendsFront : Option (List ℕ) → Option (List ℕ) → List ℕ → Type 0
AppendsFront old new text = (n : ℕ) × (n < length text) × Appends old new (take n text)
