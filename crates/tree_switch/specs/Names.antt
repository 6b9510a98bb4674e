-- Equality of lists of names.
use Rattle.std.specs.Prelude.{ℕ, Bool, List}
use Rattle.std.specs.Cmp.Lexicographic.{pointwise}
use Rattle.std.specs.Str.{bytes_eq}

-- as many names, and the same ones at each place
abbrev pub same_names : List (List ℕ) → List (List ℕ) → Bool
same_names some other = pointwise bytes_eq some other
