-- Words of a line.
use Rattle.std.specs.Prelude.{ℕ, Bool, not, ◌||◌, ◌==◌, List, length, drop, filter, map}
use Rattle.std.specs.Borrow.{Bor}
use Rattle.std.specs.List.{slice_split, position_or_len}

abbrev pub is_blank : ℕ → Bool
is_blank b = b == 32 || b == 9

abbrev pub is_inside : ℕ → Bool
is_inside b = not (is_blank b)

abbrev pub is_other : ℕ → Bool
is_other b = not (b == 32)

-- what is left behind the spaces and tabs at the front
abbrev pub without_blanks : List ℕ → List ℕ
without_blanks line = drop (position_or_len is_inside line) line

-- what stands between spaces and tabs, and is not empty
unfoldable pub words_of : List ℕ → List (List ℕ)
words_of line = filter (λ w. not (length w == 0)) (slice_split is_blank line)

-- what these references point to
abbrev pub nows : List (Bor (List ℕ)) → List (List ℕ)
nows xs = map (λ x. x.now) xs
