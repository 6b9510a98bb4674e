-- The next word of a short line, by the mask of its bytes.
use Rattle.std.proofs.Common.{◌≡◌, ℕ, ◌+◌, ◌-◌, ◌/◌, ◌^◌, ◌<◌, ◌≤◌, [], ◌∷◌, List, map, take, drop, length, length-drop, refl, sym, ap, ◌∙◌, arith, take_all}
use Rattle.std.specs.List.{position_or_len}
use lib.Count.{count_trailing_zeros}
use lib.Lanes.{mask_l, chunk}
use Rattle.script_text.specs.Words.{is_blank, is_inside, words_of}
use Rattle.script_text.proofs.Loads.{mask_after, next_at, next_within, none_ahead, ones_at_front, shifted}
use Rattle.script_text.proofs.Places.{position_within}
use Rattle.script_text.proofs.WordSteps.{word_from, words_end, words_past}

module _ (line : List ℕ) (inside at rest : ℕ) (short : length line ≤ 32) (is : inside ≡ mask_l (map is_inside line)) (within : at ≤ length line) (ahead : rest ≡ inside / 2 ^ at) where
  whole : inside ≡ mask_l (map is_inside (chunk 0 (length line) line))
  whole = is ∙ ap (λ l. mask_l (map is_inside l)) (sym (take_all (length line) line (omega arith)))

  -- if no bit is left, no word is left
  pub none_left : rest ≡ 0 → words_of (drop at line) ≡ []
  none_left none =
      words_past line at (length line) within (none_ahead is_inside line inside at (length line) (omega arith) whole within (sym ahead ∙ none)) ∙ words_end line (length line) refl

  module _ (some : rest ≡ 0 → ⊥) (long : ℕ) (ones : long ≡ count_trailing_zeros 64 (2 ^ 64 - 1 - rest / 2 ^ count_trailing_zeros 64 rest)) where
    abbrev start : ℕ
    start = at + count_trailing_zeros 64 rest

    first : start ≡ at + position_or_len is_inside (drop at line)
    first =
        ap (λ m. at + count_trailing_zeros 64 m) ahead
        ∙ next_at is_inside line inside at (length line) (omega arith) (omega (arith, short)) whole within (λ z. some (ahead ∙ z))

    pub start_within : start < length line
    start_within =
        omega (arith, ap (count_trailing_zeros 64) ahead, next_within is_inside line inside at (length line) (omega arith) (omega (arith, short)) whole within (λ z. some (ahead ∙ z)))

    behind_gap : rest / 2 ^ count_trailing_zeros 64 rest ≡ inside / 2 ^ start
    behind_gap = ap (λ m. m / 2 ^ count_trailing_zeros 64 rest) ahead ∙ shifted inside at (count_trailing_zeros 64 rest)

    size : long ≡ position_or_len is_blank (drop start line)
    size =
        ones ∙ ap (λ m. count_trailing_zeros 64 (2 ^ 64 - 1 - m)) (behind_gap ∙ mask_after is_inside line inside start is)
        ∙ ones_at_front is_inside 64 (drop start line) (omega (arith, length-drop start line, short))

    pub stop_within : start + long ≤ length line
    stop_within = omega (arith, size, position_within is_blank (drop start line), length-drop start line, start_within)

    pub rest_behind : rest / 2 ^ count_trailing_zeros 64 rest / 2 ^ long ≡ inside / 2 ^ (start + long)
    rest_behind = ap (λ m. m / 2 ^ long) behind_gap ∙ shifted inside start long

    pub word_ahead : words_of (drop at line) ≡ take (start + long - start) (drop start line) ∷ words_of (drop (start + long) line)
    word_ahead = word_from line at start (start + long) first (ap (λ n. start + n) size) start_within
