-- The lines of a text, one after the other.
use Rattle.std.proofs.Common.{◌≡◌, ℕ, suc, ◌+◌, ◌<◌, ◌≤◌, ◌==◌, Bool, true, false, cond, List, [], ◌∷◌, map, take, drop, length, refl, ap, ◌∙◌, arith, take_all, drop_of_length-le, ◌⊎◌, inl, inr}
use Rattle.std.proofs.lemmas.Bool.{cases_lt}
use Rattle.std.specs.List.{count_by, slice_split, onto_first, position_or_len}
use Rattle.std.specs.Str.Lines.{strip_carriage_return}
use Rattle.std.proofs.lemmas.List.{length-map}
use Rattle.std.proofs.lemmas.List.Splits.{length-slice_split, slice_split_first, slice_split_none}
use Rattle.std.proofs.lemmas.List.Sums.{fails_before_first}
use Rattle.std.proofs.lemmas.List.Elements.{All-from_get_or}
use Rattle.script_text.specs.Lines.{is_feed, counted, lines_of}

abbrev pub parts : List ℕ → List (List ℕ)
parts xs = slice_split is_feed xs

-- a line that a line feed ends
pub first_part : (xs : List ℕ) (n : ℕ) → n ≡ position_or_len is_feed xs → n < length xs → parts xs ≡ take n xs ∷ parts (drop (n + 1) xs)
first_part xs n is h = rw (is) (slice_split_first is_feed xs 0 (omega (arith, is, h)))

-- the last line
pub last_part : (xs : List ℕ) (n : ℕ) → n ≡ position_or_len is_feed xs → length xs ≤ n → parts xs ≡ xs ∷ []
last_part xs n is h = slice_split_none is_feed xs (All-from_get_or (λ x. is_feed x ≡ false) xs 0 (λ i below. fails_before_first is_feed xs i 0 (omega (arith, is, h, below))))

-- a line that is followed by another part is counted
counted_first : (x b : _) (ps : List (List ℕ)) → counted (x ∷ map strip_carriage_return (onto_first b ps)) ≡ x ∷ counted (map strip_carriage_return (onto_first b ps))
counted_first x b [] = refl
counted_first x b (p ∷ ps) = refl

counted_cond : (x b : _) (t : Bool) (bs : List ℕ) → let ps = map strip_carriage_return (cond t ([] ∷ parts bs) (onto_first b (parts bs))) in counted (x ∷ ps) ≡ x ∷ counted ps
counted_cond x b true bs = refl
counted_cond x b false bs = counted_first x b (parts bs)

counted_more : (x xs : List ℕ) → counted (x ∷ map strip_carriage_return (parts xs)) ≡ x ∷ counted (map strip_carriage_return (parts xs))
counted_more x [] = refl
counted_more x (b ∷ bs) = counted_cond x b (is_feed b) bs

single_cond : (t : Bool) (x : List ℕ) → length (cond t [] (x ∷ [])) ≤ 1
single_cond true x = omega arith
single_cond false x = omega arith

single : (x : List ℕ) → length (counted (x ∷ [])) ≤ 1
single x = single_cond (length x == 0) x

onto_length : (n b : ℕ) (ps : List (List ℕ)) → length (counted (map strip_carriage_return ps)) ≤ n → length (counted (map strip_carriage_return (onto_first b ps))) ≤ suc n
onto_length n b [] h = omega (arith, single (strip_carriage_return (b ∷ [])))
onto_length n b (p ∷ []) h = omega (arith, single (strip_carriage_return (b ∷ p)))
onto_length n b (p ∷ q ∷ ps) h = omega (arith, h)

cond_length : (t : Bool) (b : ℕ) (bs : List ℕ) → length (counted (map strip_carriage_return (parts bs))) ≤ length bs
    → length (counted (map strip_carriage_return (cond t ([] ∷ parts bs) (onto_first b (parts bs))))) ≤ suc (length bs)
cond_length true b bs h = omega (arith, ap length (counted_more [] bs), h)
cond_length false b bs h = onto_length (length bs) b (parts bs) h

parts_length : (xs : List ℕ) → length (counted (map strip_carriage_return (parts xs))) ≤ length xs
parts_length [] = omega arith
parts_length (b ∷ bs) = cond_length (is_feed b) b bs (parts_length bs)

counted_length : (ps : List (List ℕ)) → length (counted ps) ≤ length ps
counted_length [] = omega arith
counted_length (p ∷ []) = single p
counted_length (p ∷ q ∷ ps) = omega (arith, counted_length (q ∷ ps))

-- a text has at most one more line than line feeds
pub lines_by_feeds : (xs : List ℕ) → length (lines_of xs) ≤ count_by is_feed xs + 1
unfolding lines_of
lines_by_feeds xs = omega (arith, counted_length (map strip_carriage_return (parts xs)), length-map (parts xs) strip_carriage_return, length-slice_split is_feed xs)

-- a text has at most as many lines as bytes
pub lines_length : (xs : List ℕ) → length (lines_of xs) ≤ length xs
unfolding lines_of
lines_length xs = parts_length xs

module _ (xs : List ℕ) (n : ℕ) (is : n ≡ position_or_len is_feed xs) where
  pub lines_first : n < length xs → lines_of xs ≡ strip_carriage_return (take n xs) ∷ lines_of (drop (n + 1) xs)
  unfolding lines_of
  lines_first h = rw (first_part xs n is h) (counted_more (strip_carriage_return (take n xs)) (drop (n + 1) xs))

  whole : length xs ≤ n → lines_of xs ≡ counted (strip_carriage_return (take n xs) ∷ [])
  unfolding lines_of
  whole h = rw (last_part xs n is h, take_all n xs h)

  pub none_after : length xs ≤ n → lines_of (drop (n + 1) xs) ≡ []
  unfolding lines_of
  none_after h = rw (drop_of_length-le xs {i = n + 1} (omega (arith, h)))

  -- the last line is empty
  pub lines_none : length xs ≤ n → (length (strip_carriage_return (take n xs)) == 0) ≡ true → (lines_of xs ≡ []) × (lines_of (drop (n + 1) xs) ≡ [])
  lines_none h e = (whole h ∙ rw e, none_after h)

  lines_last : length xs ≤ n → (length (strip_carriage_return (take n xs)) == 0) ≡ false → lines_of xs ≡ strip_carriage_return (take n xs) ∷ lines_of (drop (n + 1) xs)
  lines_last h e = whole h ∙ rw (e, none_after h)

  -- the next line ends with a line feed, or is not empty
  pub lines_next : n ≤ length xs → (b : Bool) → (length (strip_carriage_return (take n xs)) == 0) ≡ b → ((b ≡ true) × (n ≡ length xs → ⊥)) ⊎ (b ≡ false)
      → lines_of xs ≡ strip_carriage_return (take n xs) ∷ lines_of (drop (n + 1) xs)
  lines_next within b e (inl more) = lines_first (omega (arith, within, more.1))
  lines_next within b e (inr some) = elim (cases_lt n (length xs)) [ inl h ↦ lines_first h | inr h ↦ lines_last h (e ∙ some) ]
