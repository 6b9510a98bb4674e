-- The parts of an input, one line after the other.
use Rattle.std.proofs.Common.{◌≡◌, ℕ, ◌+◌, ◌<◌, ◌≤◌, ◌==◌, true, false, List, [], ◌∷◌, ◌++◌, take, drop, length, get_or, option_map, Option}
use Rattle.std.proofs.Common.{Some, None, refl, ap, sym, ◌∙◌, arith, append_assoc, take_all, drop_of_length-le, inl, inr, position, lt-ltb}
use Rattle.std.specs.List.{position_or_len}
use Rattle.std.proofs.lemmas.List.{drop_more, drop-drop, append-nil}
use Rattle.std.proofs.lemmas.List.Splits.{join_with_byte-slice_split}
use Rattle.std.proofs.lemmas.List.Quantifiers.{position-Some}
use Rattle.std.proofs.lemmas.Bool.{cases_eq}
use Rattle.std.proofs.lemmas.Bool.Decides.{nat_tests}
use Rattle.std.proofs.Math.Seq.{take-add}
use Rattle.script_text.specs.Lines.{is_feed}
use Rattle.script_text.specs.Input.{parts_from, parts_of, is_separator}
use Rattle.script_text.proofs.LineSteps.{first_part, last_part}

-- the split of a text, with `front` before its first part
abbrev pub behind : List ℕ → Option (List ℕ × List ℕ) → Option (List ℕ × List ℕ)
behind front o = option_map (λ p. (front ++ p.0, p.1)) o

-- if the first line is a separator, the first part is empty
pub found_first : (xs : List ℕ) (n : ℕ) → n ≡ position_or_len is_feed xs → n < length xs → is_separator (take n xs) ≡ true → parts_of xs ≡ Some ([], drop (n + 1) xs)
unfolding parts_from
found_first xs n is h here = rw (first_part xs n is h, here, join_with_byte-slice_split 10 (drop (n + 1) xs))

pub found_last : (xs : List ℕ) (n : ℕ) → n ≡ position_or_len is_feed xs → length xs ≤ n → is_separator (take n xs) ≡ true → parts_of xs ≡ Some ([], drop (n + 1) xs)
unfolding parts_from
found_last xs n is h here =
    let whole : is_separator xs ≡ true = ap is_separator (sym (take_all n xs h)) ∙ here in
    rw (last_part xs n is h, whole, drop_of_length-le xs {i = n + 1} (omega (arith, h)))

pub found : (xs : List ℕ) (n : ℕ) → n ≡ position_or_len is_feed xs → n ≤ length xs → is_separator (take n xs) ≡ true → parts_of xs ≡ Some ([], drop (n + 1) xs)
found xs n is within here = elim (cases_eq n (length xs)) [
  | inl last ↦ found_last xs n is (omega (arith, last)) here
  | inr more ↦ found_first xs n is (omega (arith, within, more)) here
]

-- if the only line is not a separator, there is no split
pub none_left : (xs : List ℕ) (n : ℕ) → n ≡ position_or_len is_feed xs → length xs ≤ n → is_separator (take n xs) ≡ false → parts_of xs ≡ None
unfolding parts_from
none_left xs n is h other =
    let whole : is_separator xs ≡ false = ap is_separator (sym (take_all n xs h)) ∙ other in
    rw (last_part xs n is h, whole)

behind_line : (a b : List ℕ) (o : Option (List ℕ × List ℕ)) → b ≡ a ++ 10 ∷ [] → option_map (λ p. (a ++ 10 ∷ p.0, p.1)) o ≡ behind b o
behind_line a b None e = refl
behind_line a b (Some p) e = ap (λ (l : List ℕ). Some (l, p.1)) (sym (ap (λ l. l ++ p.0) e ∙ append_assoc a (10 ∷ []) p.0))

pub behind_behind : (a b c : List ℕ) (o : Option (List ℕ × List ℕ)) → c ≡ a ++ b → behind a (behind b o) ≡ behind c o
behind_behind a b c None e = refl
behind_behind a b c (Some p) e = ap (λ (l : List ℕ). Some (l, p.1)) (sym (ap (λ l. l ++ p.0) e ∙ append_assoc a b p.0))

-- the line with its feed
with_feed : (xs : List ℕ) (n : ℕ) → n ≡ position_or_len is_feed xs → n < length xs → take (n + 1) xs ≡ take n xs ++ 10 ∷ []
with_feed xs n is h =
    let at : position is_feed xs ≡ Some n = rw (← is, lt-ltb n (length xs) h) in
    let feed : (get_or xs n 0 == 10) ≡ true = (position-Some is_feed xs n 0 at).1 in
    let ten : get_or xs n 0 ≡ 10 = grind (arith, nat_tests) in
    take-add n 1 xs ∙ ap (λ l. take n xs ++ take 1 l) (drop_more xs n 0 h) ∙ ap (λ b. take n xs ++ b ∷ []) ten

-- if the first line is not a separator and more lines follow, it belongs to the first part
pub further : (xs : List ℕ) (n : ℕ) → n ≡ position_or_len is_feed xs → n < length xs → is_separator (take n xs) ≡ false
    → parts_of xs ≡ behind (take (n + 1) xs) (parts_of (drop (n + 1) xs))
unfolding parts_from
further xs n is h other = rw (first_part xs n is h, other) (behind_line (take n xs) (take (n + 1) xs) (parts_of (drop (n + 1) xs)) (with_feed xs n is h))

-- a turn of the loop at a place: it finds a separator, the end or the next line
module _ (bytes rest : List ℕ) (at n : ℕ) (so_far : parts_of bytes ≡ behind (take at bytes) (parts_of (drop at bytes)))
    (left : rest ≡ drop at bytes) (line : n ≡ position_or_len is_feed rest) where
  here : parts_of bytes ≡ behind (take at bytes) (parts_of rest)
  here = so_far ∙ ap (λ r. behind (take at bytes) (parts_of r)) (sym left)

  pub turn_found : (tail : List ℕ) → n ≤ length rest → is_separator (take n rest) ≡ true → tail ≡ drop (n + 1) rest → Some (take at bytes, tail) ≡ parts_of bytes
  turn_found tail within is_one is =
      sym (here ∙ ap (behind (take at bytes)) (found rest n line within is_one) ∙ ap (λ (l : List ℕ). Some (l, drop (n + 1) rest)) (append-nil (take at bytes))
      ∙ ap (λ (l : List ℕ). Some (take at bytes, l)) (sym is))

  pub turn_none : length rest ≤ n → is_separator (take n rest) ≡ false → None ≡ parts_of bytes
  turn_none end isnt = sym (here ∙ ap (behind (take at bytes)) (none_left rest n line end isnt))

  pub turn_more : n < length rest → is_separator (take n rest) ≡ false
      → parts_of bytes ≡ behind (take (at + (n + 1)) bytes) (parts_of (drop (at + (n + 1)) bytes))
  turn_more more isnt =
      let front : take (at + (n + 1)) bytes ≡ take at bytes ++ take (n + 1) rest = take-add at (n + 1) bytes ∙ ap (λ r. take at bytes ++ take (n + 1) r) (sym left) in
      let back : drop (n + 1) rest ≡ drop (at + (n + 1)) bytes = ap (drop (n + 1)) left ∙ drop-drop (n + 1) at bytes in
      here ∙ ap (behind (take at bytes)) (further rest n line more isnt)
      ∙ behind_behind (take at bytes) (take (n + 1) rest) (take (at + (n + 1)) bytes) (parts_of (drop (n + 1) rest)) front
      ∙ ap (λ r. behind (take (at + (n + 1)) bytes) (parts_of r)) back
