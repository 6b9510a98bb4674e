-- The tree part and the script part of an input.
use Rattle.std.specs.Prelude.{ℕ, Bool, if◌then◌else◌, List, [], ◌∷◌, ◌++◌, codes, Option, Some, None, option_map}
use Rattle.std.specs.List.{slice_split, join_with_byte}
use Rattle.std.specs.Str.{bytes_eq}
use Rattle.std.specs.Str.Lines.{strip_carriage_return}
use Rattle.script_text.specs.Lines.{is_feed}

unfoldable pub is_separator : List ℕ → Bool
is_separator line = bytes_eq (strip_carriage_return line) (codes "%%")

-- the lines before the first separator, each with its line feed, and what stands after it
unfoldable pub parts_from : List (List ℕ) → Option (List ℕ × List ℕ)
parts_from [] = None
parts_from (x ∷ xs) =
    if is_separator x then Some ([], join_with_byte 10 xs)
    else option_map (λ p. (x ++ 10 ∷ p.0, p.1)) (parts_from xs)

abbrev pub parts_of : List ℕ → Option (List ℕ × List ℕ)
parts_of bytes = parts_from (slice_split is_feed bytes)
