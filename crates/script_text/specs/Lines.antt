-- Lines of bytes.
use Rattle.std.specs.Prelude.{ℕ, Bool, ◌==◌, if◌then◌else◌, map, List, [], ◌∷◌, length}
use Rattle.std.specs.List.{slice_split}
use Rattle.std.specs.Str.Lines.{strip_carriage_return}

abbrev pub is_feed : ℕ → Bool
is_feed b = b == 10

-- a last line counts only where it is not empty
abbrev pub counted : List (List ℕ) → List (List ℕ)
counted [] = []
counted (x ∷ []) = if length x == 0 then [] else x ∷ []
counted (x ∷ y ∷ more) = x ∷ counted (y ∷ more)

-- the bytes between line feeds, each line without the one carriage return at its end
unfoldable pub lines_of : List ℕ → List (List ℕ)
lines_of text = counted (map strip_carriage_return (slice_split is_feed text))
