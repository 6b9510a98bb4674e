-- A text of limited length has few lines.
use Rattle.std.proofs.Common.{ℕ, ◌+◌, ◌<◌, ◌≤◌, ◌^◌, Bool, true, false, cond, List, [], ◌∷◌, length, map, ◌==◌, arith}
use Rattle.std.specs.List.{onto_first, slice_split}
use Rattle.std.specs.Str.Lines.{strip_carriage_return}
use Rattle.std.proofs.lemmas.List.{length-map}
use Rattle.script_text.specs.Lines.{counted, is_feed, lines_of}

onto_first_few : (x : ℕ) (parts : List (List ℕ)) → length (onto_first x parts) ≤ length parts + 1
onto_first_few x [] = omega arith
onto_first_few x (p ∷ ps) = omega arith

split_few : (xs : List ℕ) → length (slice_split is_feed xs) ≤ length xs + 1
split_few [] = omega arith
split_few (x ∷ xs) = go (is_feed x) (split_few xs)
  where
    go : (b : Bool) → length (slice_split is_feed xs) ≤ length xs + 1 → length (cond b ([] ∷ slice_split is_feed xs) (onto_first x (slice_split is_feed xs))) ≤ length (x ∷ xs) + 1
    go true h = omega (arith, h)
    go false h = omega (arith, h, onto_first_few x (slice_split is_feed xs))

counted_few : (xs : List (List ℕ)) → length (counted xs) ≤ length xs
counted_few [] = omega arith
counted_few (x ∷ []) = go (length x == 0)
  where
    go : (b : Bool) → length (cond b [] (x ∷ [])) ≤ 1
    go true = omega arith
    go false = omega arith
counted_few (x ∷ y ∷ more) = omega (arith, counted_few (y ∷ more))

-- a text of at most 65,536 bytes has fewer than 2^32 lines
pub few_lines : (text : List ℕ) → length text ≤ 65536 → length (lines_of text) < 2 ^ 32
unfolding lines_of
few_lines text short =
    omega (arith, short, split_few text, counted_few (map strip_carriage_return (slice_split is_feed text)), length-map (slice_split is_feed text) strip_carriage_return)
