-- A line that has only spaces after its first bytes.
use Rattle.std.proofs.Common.{◌≡◌, ℕ, suc, ◌+◌, ◌-◌, ◌<◌, ◌≤◌, ◌==◌, Bool, true, false, cond, not, ◌||◌, List, [], ◌∷◌, ◌++◌}
use Rattle.std.proofs.Common.{map, take, drop, length, get_or, slice_index, refl, sym, ap, ◌∙◌, arith, append_assoc, take_all}
use Rattle.std.specs.List.{filter, onto_first, position_or_len, slice_split}
use Rattle.std.specs.Str.Lines.{strip_carriage_return}
use Rattle.std.proofs.Math.Seq.{take-add}
use Rattle.std.proofs.lemmas.Bool.Decides.{nat_tests}
use Rattle.std.proofs.lemmas.List.{append-nil, get_or-drop, get_or-take, length-take-le}
use Rattle.std.proofs.lemmas.List.Elements.{filter-append}
use Rattle.std.proofs.lemmas.List.Splits.{length-slice_split}
use Rattle.std.proofs.lemmas.List.Sums.{fails_before_first, position_or_len_is}
use lib.Count.{count_trailing_zeros}
use lib.Lanes.{mask_l, chunk}
use Rattle.script_text.specs.Lines.{is_feed}
use Rattle.script_text.specs.Words.{is_blank, is_other, words_of}
use Rattle.script_text.proofs.Loads.{take_less, run_through, run_stops, stop_within}
use Rattle.script_text.proofs.Places.{position_within}

-- an empty part at the end does not change the parts before it
onto_more : (x : ℕ) (ps : List (List ℕ)) → 0 < length ps → onto_first x (ps ++ [] ∷ []) ≡ onto_first x ps ++ [] ∷ []
onto_more x [] h = absurd (omega (arith, h))
onto_more x (p ∷ ps) h = refl

cond_more : (b : Bool) (x : ℕ) (ps : List (List ℕ)) → 0 < length ps
    → cond b ([] ∷ (ps ++ [] ∷ [])) (onto_first x (ps ++ [] ∷ [])) ≡ cond b ([] ∷ ps) (onto_first x ps) ++ [] ∷ []
cond_more true x ps h = refl
cond_more false x ps h = onto_more x ps h

parts_more : (xs : List ℕ) (b : ℕ) → is_blank b ≡ true → slice_split is_blank (xs ++ b ∷ []) ≡ slice_split is_blank xs ++ [] ∷ []
parts_more [] b h = rw h
parts_more (x ∷ xs) b h =
    ap (λ ps. cond (is_blank x) ([] ∷ ps) (onto_first x ps)) (parts_more xs b h) ∙ cond_more (is_blank x) x (slice_split is_blank xs) (omega (arith, length-slice_split is_blank xs))

-- a blank at the end changes no word
blank_last : (xs : List ℕ) (b : ℕ) → is_blank b ≡ true → words_of (xs ++ b ∷ []) ≡ words_of xs
unfolding words_of
blank_last xs b h =
    ap (λ ps. filter (λ w. not (length w == 0)) ps) (parts_more xs b h) ∙ filter-append (λ w. not (length w == 0)) (slice_split is_blank xs) ([] ∷ [])
    ∙ append-nil (filter (λ w. not (length w == 0)) (slice_split is_blank xs))

is_space : (b : ℕ) → is_other b ≡ false → is_blank b ≡ true
is_space b h = go (b == 32) h
  where
    go : (t : Bool) → not t ≡ false → (t || (b == 9)) ≡ true
    go true e = refl
    go false e = absurd (cc)

-- spaces at the end change no word
pub spaces_last : (xs ys : List ℕ) → words_of (xs ++ take (position_or_len is_other ys) ys) ≡ words_of xs
spaces_last xs [] = ap words_of (append-nil xs)
spaces_last xs (y ∷ ys) = go (is_other y) refl (spaces_last (xs ++ y ∷ []) ys)
  where
    go : (b : Bool) → is_other y ≡ b → words_of ((xs ++ y ∷ []) ++ take (position_or_len is_other ys) ys) ≡ words_of (xs ++ y ∷ [])
        → words_of (xs ++ take (position_or_len is_other (y ∷ ys)) (y ∷ ys)) ≡ words_of xs
    go true e more = rw e (ap words_of (append-nil xs))
    go false e more =
        let n = position_or_len is_other ys in
        let one : take (1 + n) (y ∷ ys) ≡ y ∷ take n ys = (let s : 1 + n ≡ suc n = omega arith in rw s) in
        rw e (ap (λ l. words_of (xs ++ l)) one ∙ ap words_of (sym (append_assoc xs (y ∷ []) (take n ys))) ∙ more ∙ blank_last xs y (is_space y e))

no_feed : (b : ℕ) → is_other b ≡ false → is_feed b ≡ false
no_feed b h = grind (arith, nat_tests)

no_return : (b : ℕ) → is_other b ≡ false → (b == 13) ≡ false
no_return b h = grind (arith, nat_tests)

strip_kept : (l : List ℕ) → (slice_index l (length l - 1) == 13) ≡ false → strip_carriage_return l ≡ l
strip_kept l h = rw h refl

-- the line of d up to n has only spaces after its first 32 bytes
module _ (d : List ℕ) (n : ℕ) (long : 32 ≤ length d) (is : n ≡ 32 + position_or_len is_other (drop 32 d)) (within : n < length d) where
  abbrev k : ℕ
  k = position_or_len is_other (drop 32 d)

  pub feed_at : mask_l (map is_feed (chunk 0 32 d)) ≡ 0 → get_or d n 0 ≡ 10 → n ≡ position_or_len is_feed d
  feed_at none feed =
      let ys = drop 32 d in
      let room : k ≤ length ys = position_within is_other ys in
      let here : get_or ys k 0 ≡ 10 = get_or-drop 32 d k 0 ∙ ap (λ i. get_or d i 0) (sym is) ∙ feed in
      let first : position_or_len is_feed ys ≡ k = position_or_len_is is_feed ys k 0 room (λ j l. no_feed (get_or ys j 0) (fails_before_first is_other ys j 0 l)) (λ l. rw here refl) in
      let through = run_through is_feed d 0 32 long none in
      omega (arith, is, first, through)

  pub words_cut : 32 < n → words_of (take 32 d) ≡ words_of (strip_carriage_return (take n d))
  words_cut more =
      let ys = drop 32 d in
      let whole : take n d ≡ take 32 d ++ take k ys = ap (λ m. take m d) is ∙ take-add 32 k d in
      let size : length (take n d) ≡ n = length-take-le n d (omega (arith, within)) in
      let last : slice_index (take n d) (length (take n d) - 1) ≡ get_or ys (k - 1) 0 =
      ap (λ m. get_or (take n d) (m - 1) 0) size ∙ get_or-take n d (n - 1) 0 (omega (arith, more)) ∙ ap (λ i. get_or d i 0) (omega (arith, is, more)) ∙ sym (get_or-drop 32 d (k - 1) 0) in
      let kept = strip_kept (take n d) (ap (λ b. b == 13) last ∙ no_return (get_or ys (k - 1) 0) (fails_before_first is_other ys (k - 1) 0 (omega (arith, is, more)))) in
      sym (spaces_last (take 32 d) ys) ∙ ap words_of (sym whole ∙ sym kept)

stripped : (l : List ℕ) → (strip_carriage_return l ≡ take (length (strip_carriage_return l)) l) × (length (strip_carriage_return l) ≤ length l)
stripped l = go (slice_index l (length l - 1) == 13)
  where
    go : (b : Bool) → ((cond b (take (length l - 1) l) l) ≡ take (length (cond b (take (length l - 1) l) l)) l) × (length (cond b (take (length l - 1) l) l) ≤ length l)
    go true = let size = length-take-le (length l - 1) l (omega arith) in (ap (λ i. take i l) (sym size), omega (arith, size))
    go false = (sym (take_all (length l) l (omega arith)), omega arith)

-- a short line, without the carriage return at its end, is a prefix of d
pub stripped_front : (d line : List ℕ) (n : ℕ) → n ≤ length d → line ≡ strip_carriage_return (take n d) → (line ≡ take (length line) d) × (length line ≤ n)
stripped_front d line n room is =
    let size = length-take-le n d room in
    let less : length line ≤ n = omega (arith, ap length is, (stripped (take n d)).1, size) in
    (is ∙ (stripped (take n d)).0 ∙ ap (λ l. take (length l) (take n d)) (sym is) ∙ take_less d (length line) n less room, less)

-- the line feed that is the first of the 32 bytes
module _ (d : List ℕ) (mask : ℕ) (long : 32 ≤ length d) (is : mask ≡ mask_l (map is_feed (chunk 0 32 d))) (some : mask ≡ 0 → ⊥) where
  pub near_feed : count_trailing_zeros 64 mask ≡ position_or_len is_feed d
  near_feed = ap (count_trailing_zeros 64) is ∙ sym (run_stops is_feed d 0 32 long (omega arith) (omega (arith, is, some)))

  pub near_within : count_trailing_zeros 64 mask < 32
  near_within = omega (arith, stop_within is_feed d 0 32 long (omega arith) (omega (arith, is, some)), ap (count_trailing_zeros 64) is)
