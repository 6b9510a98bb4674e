-- Texts that are written whole or not at all.
use Rattle.std.proofs.Common.{◌≡◌, ℕ, ◌+◌, ◌-◌, ◌<◌, ℤ, Option, Some, slice_get, drop, map, if◌then◌else◌, List, [], ◌∷◌}
use Rattle.std.proofs.Common.{◌++◌, codes, Result, Ok, Err, is_ok, take, length, refl, sym, ap, ◌∙◌, append_assoc, arith}
use Rattle.std.specs.Result.{OnOk, OnErr}
use Rattle.std.specs.List.{join_with_byte}
use Rattle.std.proofs.lemmas.List.{take_at, append-nil, drop_more}
use Rattle.std.proofs.lemmas.Option.{slice_get_within, get_or_from_slice_get}
use Rattle.script_text.specs.Texts.{line_text, value_text}
use Rattle.script_text.specs.Puts.{Puts, IsFront, spaced}

joined : (w : List ℕ) (ws : List (List ℕ)) → join_with_byte 32 (w ∷ ws) ≡ w ++ spaced ws
joined w [] = sym (append-nil w)
joined w (v ∷ vs) = ap (λ l. w ++ 32 ∷ l) (joined v vs)

-- the first word of a line, the other words, and the feed
pub line_behind : (old w : List ℕ) (ws : List (List ℕ)) → old ++ w ++ spaced ws ++ codes "\n" ≡ old ++ line_text (w ∷ ws)
line_behind old w ws =
    append_assoc (old ++ w) (spaced ws) (codes "\n") ∙ append_assoc old w (spaced ws ++ codes "\n")
    ∙ ap (λ l. old ++ l) (sym (append_assoc w (spaced ws) (codes "\n")) ∙ ap (λ l. l ++ codes "\n") (sym (joined w ws)))

pub kept : {E : Type 0} (old text new out : List ℕ) (written : Result (Unit {0}) E) → out ≡ (if is_ok written then new else take (length old) new) → Puts old text new written
    → OnOk written (out ≡ old ++ text)
kept old text new out (Ok u) is put = is ∙ put
kept old text new out (Err e) is put = tt

pub taken_back : {E : Type 0} (old text new out : List ℕ) (written : Result (Unit {0}) E) → out ≡ (if is_ok written then new else take (length old) new) → Puts old text new written
    → OnErr written (out ≡ old)
taken_back old text new out (Ok u) is put = tt
taken_back old text new out (Err e) is put = is ∙ ap (take (length old)) put.grown ∙ take_at old put.more (length old) refl

pub front_front : {old mid new : List ℕ} → IsFront old mid → IsFront mid new → IsFront old new
front_front {old = old} f g = record { more = f.more ++ g.more; grown = g.grown ∙ ap (λ l. l ++ g.more) f.grown ∙ append_assoc old f.more g.more }

-- a line is complete once its first word, its other words and its feed are written
pub line_ends : {E : Type 0} (old one two new w : List ℕ) (ws : List (List ℕ)) (r : Result (Unit {0}) E) → one ≡ old ++ w → two ≡ one ++ spaced ws → Puts two (codes "\n") new r
    → Puts old (line_text (w ∷ ws)) new r
line_ends old one two new w ws (Ok u) first others end =
    end ∙ ap (λ l. l ++ codes "\n") (others ∙ ap (λ l. l ++ spaced ws) first) ∙ line_behind old w ws
line_ends old one two new w ws (Err e) first others end =
    front_front (record { more = w; grown = first }) (front_front (record { more = spaced ws; grown = others }) end)

-- the words of a line and its feed, after the first word
pub whole_line : (w : List ℕ) (ws : List (List ℕ)) → w ++ (spaced ws ++ codes "\n") ≡ line_text (w ∷ ws)
whole_line w ws = sym (append_assoc w (spaced ws) (codes "\n")) ∙ ap (λ l. l ++ codes "\n") (sym (joined w ws))

-- a text that is appended in one call
pub put_at_once : {E : Type 0} (old text bytes new : List ℕ) (r : Result (Unit {0}) E) → new ≡ (if is_ok r then old ++ bytes else old) → bytes ≡ text → Puts old text new r
put_at_once old text bytes new (Ok u) is same = is ∙ ap (λ l. old ++ l) same
put_at_once old text bytes new (Err e) is same = record { more = []; grown = is ∙ sym (append-nil old) }

-- one more value before those that are written
pub one_value : (vs : List (Option ℤ)) (n : ℕ) (v : Option ℤ) (rest : List ℕ) → 0 < n → slice_get vs (n - 1) ≡ Some v
    → spaced (map value_text (drop (n - 1) vs)) ++ rest ≡ codes " " ++ (value_text v ++ (spaced (map value_text (drop n vs)) ++ rest))
one_value vs n v rest some read =
    let i : ℕ = n - 1 in
    let next : i + 1 ≡ n = omega (arith, some) in
    let left : drop i vs ≡ v ∷ drop n vs = drop_more vs i v (slice_get_within vs i v read) ∙ ap (λ w. w ∷ drop (i + 1) vs) (get_or_from_slice_get vs i v v read) ∙ ap (λ k. v ∷ drop k vs) next in
    ap (λ (xs : List (Option ℤ)). spaced (map value_text xs) ++ rest) left ∙ ap (λ l. 32 ∷ l) (append_assoc (value_text v) (spaced (map value_text (drop n vs))) rest)
