-- The words of a line, one after the other.
use Rattle.std.proofs.Common.{ap₂, ◌-◌, length-drop, ◌≡◌, ℕ, suc, ◌+◌, ◌<◌, ◌≤◌, ◌==◌, Bool, true, false, if◌then◌else◌, not, inl, inr, List, []}
use Rattle.std.proofs.Common.{◌∷◌, ◌++◌, take, drop, set, length, refl, ap, sym, ◌∙◌, arith, take_all, get_or, drop_of_length-le, append_assoc}
use Rattle.std.specs.Borrow.{Bor}
use Rattle.std.specs.List.{slice_split, position_or_len}
use Rattle.std.proofs.lemmas.Bool.{cases_lt}
use Rattle.std.proofs.lemmas.Bool.Decides.{nat_tests}
use Rattle.script_text.proofs.Places.{position_within}
use Rattle.std.proofs.lemmas.Bool.{ne_eqb}
use Rattle.std.proofs.lemmas.List.{drop-drop, length-take-le, drop_more, length-take-le, length-take, length-map, take_more_set, map_push, append-nil, take_at}
use Rattle.std.proofs.lemmas.List.Splits.{slice_split_first, slice_split_none}
use Rattle.std.proofs.lemmas.List.Sums.{fails_before_first, prefix_len_stops}
use Rattle.std.proofs.lemmas.List.Elements.{All-from_get_or}
use Rattle.script_text.specs.Words.{is_blank, is_inside, nows, without_blanks, words_of}

words_blank : (x : ℕ) (xs : List ℕ) → is_blank x ≡ true → words_of (x ∷ xs) ≡ words_of xs
unfolding words_of
words_blank x xs h = rw h

one_more : (n x : ℕ) (xs : List ℕ) → drop (1 + n) (x ∷ xs) ≡ drop n xs
one_more n x xs = let e : 1 + n ≡ suc n = omega arith in rw e

inside_cons : (x : ℕ) (xs : List ℕ) (b : Bool) → is_blank x ≡ b → without_blanks (x ∷ xs) ≡ (if b then without_blanks xs else x ∷ xs)
inside_cons x xs true h = rw h (one_more (position_or_len is_inside xs) x xs)
inside_cons x xs false h = rw h

-- blanks at the front change no word
pub words_inside : (xs : List ℕ) → words_of (without_blanks xs) ≡ words_of xs
words_inside [] = refl
words_inside (x ∷ xs) = step (is_blank x) refl (words_inside xs)
  where
    step : (b : Bool) → is_blank x ≡ b → words_of (without_blanks xs) ≡ words_of xs → words_of (without_blanks (x ∷ xs)) ≡ words_of (x ∷ xs)
    step true h more = ap words_of (inside_cons x xs true h) ∙ more ∙ sym (words_blank x xs h)
    step false h more = ap words_of (inside_cons x xs false h)

-- if only blanks are between two places, the same words follow both
pub words_past : (line : List ℕ) (i j : ℕ) → i ≤ j → position_or_len is_inside (drop i line) ≡ j - i + position_or_len is_inside (drop j line) → words_of (drop i line) ≡ words_of (drop j line)
words_past line i j h is =
    let n = position_or_len is_inside (drop i line) in
    let m = position_or_len is_inside (drop j line) in
    let same : i + n ≡ j + m = omega (arith, is, h) in
    sym (words_inside (drop i line)) ∙ ap words_of (drop-drop n i line ∙ ap (λ k. drop k line) same ∙ sym (drop-drop m j line)) ∙ words_inside (drop j line)

-- no word follows the end of the line
pub words_end : (line : List ℕ) (n : ℕ) → n ≡ length line → words_of (drop n line) ≡ []
unfolding words_of
words_end line n is = ap words_of (drop_of_length-le line {i = n} (omega (arith, is)))

blank_next : (x : ℕ) (xs : List ℕ) → is_blank x ≡ false → position_or_len is_blank (x ∷ xs) ≡ 0 → ⊥
blank_next x xs h = rw h (λ e. omega (arith, e))

-- if no word follows the blanks, only blanks are left
pub none_inside : (xs : List ℕ) → position_or_len is_blank (without_blanks xs) ≡ 0 → without_blanks xs ≡ []
none_inside [] e = refl
none_inside (x ∷ xs) e = step (is_blank x) refl (none_inside xs)
  where
    step : (b : Bool) → is_blank x ≡ b → (position_or_len is_blank (without_blanks xs) ≡ 0 → without_blanks xs ≡ []) → without_blanks (x ∷ xs) ≡ []
    step true h more = inside_cons x xs true h ∙ more (sym (ap (position_or_len is_blank) (inside_cons x xs true h)) ∙ e)
    step false h more = absurd (blank_next x xs h (sym (ap (position_or_len is_blank) (inside_cons x xs false h)) ∙ e))

not_not : (b : Bool) → not b ≡ false → b ≡ true
not_not true e = refl
not_not false e = cc

module _ (xs : List ℕ) (n : ℕ) (is : n ≡ position_or_len is_blank xs) where
  first_part : n < length xs → slice_split is_blank xs ≡ take n xs ∷ slice_split is_blank (drop (n + 1) xs)
  first_part h = rw (is) (slice_split_first is_blank xs 0 (omega (arith, is, h)))

  last_part : length xs ≤ n → slice_split is_blank xs ≡ xs ∷ []
  last_part h = slice_split_none is_blank xs (All-from_get_or (λ x. is_blank x ≡ false) xs 0 (λ i below. fails_before_first is_blank xs i 0 (omega (arith, is, h, below))))

  at_end : n < length xs → is_blank (get_or xs n 0) ≡ true
  at_end h =
      let stop = prefix_len_stops is_inside xs 0 (omega (arith, is, h)) in
      rw (is) (not_not (is_blank (get_or xs (position_or_len is_blank xs) 0)) stop)

  after_blank : n < length xs → words_of (drop n xs) ≡ words_of (drop (n + 1) xs)
  after_blank h = rw (drop_more xs n 0 h) (words_blank (get_or xs n 0) (drop (n + 1) xs) (at_end h))

  -- a word at the front
  inner : n < length xs → (length (take n xs) == 0) ≡ false → words_of xs ≡ take n xs ∷ words_of (drop (n + 1) xs)
  unfolding words_of
  inner h some = rw (first_part h, some)

  outer : length xs ≤ n → (length (take n xs) == 0) ≡ false → words_of xs ≡ take n xs ∷ words_of (drop n xs)
  unfolding words_of
  outer h some =
      let whole : (length xs == 0) ≡ false = sym (ap (λ l. length l == 0) (take_all n xs h)) ∙ some in
      rw (last_part h, whole, take_all n xs h, drop_of_length-le xs {i = n} h)

  pub words_first : (length (take n xs) == 0) ≡ false → words_of xs ≡ take n xs ∷ words_of (drop n xs)
  words_first some = elim (cases_lt n (length xs)) [
    | inl h ↦ inner h some ∙ ap (λ l. take n xs ∷ l) (sym (after_blank h))
    | inr h ↦ outer h some
  ]

-- the first word of a line, and what is left after it
module _ (line : List ℕ) (n : ℕ) (is : n ≡ position_or_len is_blank (without_blanks line)) where
  pub word_next : (length (take n (without_blanks line)) == 0) ≡ false → words_of line ≡ take n (without_blanks line) ∷ words_of (drop n (without_blanks line))
  word_next some = sym (words_inside line) ∙ words_first (without_blanks line) n is some

  pub word_none : n ≤ length (without_blanks line) → (length (take n (without_blanks line)) == 0) ≡ true → (words_of line ≡ []) × (words_of (drop n (without_blanks line)) ≡ [])
  unfolding words_of
  word_none within none =
      let zero : n ≡ 0 = grind (arith, nat_tests, length-take-le n (without_blanks line) within) in
      let gone : without_blanks line ≡ [] = none_inside line (sym is ∙ zero) in
      (sym (words_inside line) ∙ ap words_of gone, ap (λ l. words_of (drop n l)) gone ∙ rw zero)

-- the next word of a line, searched from a place in it
module _ (line : List ℕ) (at start stop : ℕ) (first : start ≡ at + position_or_len is_inside (drop at line)) (last : stop ≡ start + position_or_len is_blank (drop start line)) where
  pub word_from : start < length line → words_of (drop at line) ≡ take (stop - start) (drop start line) ∷ words_of (drop stop line)
  word_from h =
      let n = position_or_len is_blank (drop start line) in
      let here : without_blanks (drop at line) ≡ drop start line = drop-drop (position_or_len is_inside (drop at line)) at line ∙ ap (λ k. drop k line) (sym first) in
      let left : drop n (drop start line) ≡ drop stop line = drop-drop n start line ∙ ap (λ k. drop k line) (sym last) in
      let long : length (take n (drop start line)) ≡ n = length-take-le n (drop start line) (position_within is_blank (drop start line)) in
      let inside : n ≡ 0 → ⊥ = λ none. omega (arith, h, length-drop start line, ap length (sym here ∙ none_inside (drop at line) (ap (position_or_len is_blank) here ∙ none))) in
      let some : (length (take n (without_blanks (drop at line))) == 0) ≡ false = rw (here, long) (ne_eqb n 0 inside) in
      let width : stop - start ≡ n = omega (arith, last) in
      word_next (drop at line) n (ap (position_or_len is_blank) (sym here)) some ∙ ap₂ (λ w l. w ∷ words_of l) (ap (take n) here ∙ ap (λ k. take k (drop start line)) (sym width))
      (ap (drop n) here ∙ left)

abbrev Texts : Type 0
Texts = List (Bor (List ℕ))

-- the words that were taken, and those that are left
pub words_more : (xs : Texts) (n : ℕ) (w : Bor (List ℕ)) (left rest all : List (List ℕ)) → n < length xs → nows (take n xs) ++ left ≡ all → left ≡ w.now ∷ rest
    → nows (take (n + 1) (set xs n w)) ++ rest ≡ all
words_more xs n w left rest all h so_far next =
    ap (λ l. nows l ++ rest) (take_more_set xs n w h) ∙ ap (λ l. l ++ rest) (map_push (λ x. x.now) (take n xs) w) ∙ append_assoc (nows (take n xs)) (w.now ∷ []) rest
    ∙ ap (λ l. nows (take n xs) ++ l) (sym next) ∙ so_far

pub words_all : (xs : Texts) (n : ℕ) (left all : List (List ℕ)) → n ≤ 6 → nows (take n xs) ++ left ≡ all → left ≡ [] → nows (take n xs) ≡ take 6 all
words_all xs n left all h so_far none =
    let same : nows (take n xs) ≡ all = sym (append-nil (nows (take n xs))) ∙ ap (λ l. nows (take n xs) ++ l) (sym none) ∙ so_far in
    let short : length (nows (take n xs)) ≤ 6 = simp (length-map, length-take) (omega (arith, h)) in
    sym (take_all 6 (nows (take n xs)) short) ∙ ap (take 6) same

pub words_full : (xs : Texts) (n : ℕ) (left all : List (List ℕ)) → n ≡ 6 → length xs ≡ 6 → nows (take n xs) ++ left ≡ all → nows (take n xs) ≡ take 6 all
words_full xs n left all six long so_far =
    let whole : length (nows (take n xs)) ≡ 6 = simp (length-map, length-take) (omega (arith, six, long)) in
    sym (take_at (nows (take n xs)) left 6 whole) ∙ ap (take 6) so_far
