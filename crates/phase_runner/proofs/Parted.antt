-- The parts of an input, one after another.
use Rattle.std.proofs.Common.{◌≡◌, ℕ, zero, suc, le_refl, ◌+◌, ◌<◌, ◌≤◌, Bool, true, false, cond, List, [], ◌∷◌, ◌++◌, length}
use Rattle.std.proofs.Common.{length-append, append_assoc, option_map, Option, Some, None, refl, sym, ◌∙◌, ap, subst, arith}
use Rattle.std.specs.Borrow.{Bor}
use Rattle.std.specs.List.{join_with_byte, slice_split}
use Rattle.std.specs.Prelude.{All}
use Rattle.std.proofs.lemmas.List.{map-append}
use Rattle.std.proofs.lemmas.List.Elements.{All-push}
use Rattle.std.proofs.lemmas.List.Splits.{join_with_byte-slice_split}
use Rattle.script_text.specs.Lines.{is_feed}
use Rattle.script_text.specs.Input.{is_separator, parts_from, parts_of}
use Rattle.phase_runner.specs.Parts.{AreParts, texts}
use Rattle.script_text.specs.declared.input.TheConstants.{MOST_BYTES}

abbrev Split : Type 0
Split = List ℕ × List ℕ

-- a separator is not empty
some_byte : (x : List ℕ) → is_separator x ≡ true → 0 < length x
unfolding is_separator
some_byte [] h = absurd (cc)
some_byte (b ∷ x) h = omega arith

behind_first : (x : List ℕ) (xs : List (List ℕ)) → 0 < length x → length (join_with_byte 10 xs) < length (join_with_byte 10 (x ∷ xs))
behind_first x [] h = h
behind_first x (y ∷ xs) h = omega (arith, length-append x (10 ∷ join_with_byte 10 (y ∷ xs)))

-- a part and the rest after it are together shorter than the joined lines
shorter_lines : (xs : List (List ℕ)) (p : Split) → parts_from xs ≡ Some p → length p.0 + length p.1 < length (join_with_byte 10 xs)
unfolding parts_from
shorter_lines [] p e = absurd (cc)
shorter_lines (x ∷ xs) p e = first (is_separator x) refl (λ q f. shorter_lines xs q f) e
  where
    later : (ys : List (List ℕ)) (o : Option Split) → parts_from ys ≡ o → ((q : Split) → parts_from ys ≡ Some q → length q.0 + length q.1 < length (join_with_byte 10 ys))
        → option_map (λ (q : Split). (x ++ 10 ∷ q.0, q.1)) o ≡ Some p → length p.0 + length p.1 < length (join_with_byte 10 (x ∷ ys))
    later ys None f ih k = absurd (cc)
    later [] (Some q) f ih k = absurd (cc)
    later (y ∷ ys) (Some q) f ih k =
        let h = ih q f in
        let g : (x ++ 10 ∷ q.0, q.1) ≡ p = cc in
        subst (λ (r : Split). length r.0 + length r.1 < length (x ++ 10 ∷ join_with_byte 10 (y ∷ ys))) g
        (omega (arith, h, length-append x (10 ∷ q.0), length-append x (10 ∷ join_with_byte 10 (y ∷ ys))))

    first : (b : Bool) → is_separator x ≡ b → ((q : Split) → parts_from xs ≡ Some q → length q.0 + length q.1 < length (join_with_byte 10 xs))
        → cond b (Some ([], join_with_byte 10 xs)) (option_map (λ (q : Split). (x ++ 10 ∷ q.0, q.1)) (parts_from xs)) ≡ Some p
        → length p.0 + length p.1 < length (join_with_byte 10 (x ∷ xs))
    first true s ih k =
        let g : ([], join_with_byte 10 xs) ≡ p = cc in
        subst (λ (r : Split). length r.0 + length r.1 < length (join_with_byte 10 (x ∷ xs))) g (omega (arith, behind_first x xs (some_byte x s)))
    first false s ih k = later xs (parts_from xs) refl ih k

-- so they are together shorter than the bytes
pub shorter : (bytes part rest : List ℕ) → parts_of bytes ≡ Some (part, rest) → length part + length rest < length bytes
shorter bytes part rest e =
    subst (λ (n : List ℕ). length part + length rest < length n) (join_with_byte-slice_split 10 bytes) (shorter_lines (slice_split is_feed bytes) (part, rest) e)

-- the parts that were cut off so far, before the parts of the rest
pub record IsCut (bytes rest : List ℕ) (so_far : List (Bor (List ℕ))) : Type 0 where
  pub parts : (more : List (List ℕ)) → AreParts rest more → AreParts bytes (texts so_far ++ more)
  pub small : All (λ (p : List ℕ). length p ≤ MOST_BYTES) (texts so_far)
  pub within : length rest ≤ MOST_BYTES

before_more : (rest part behind : List ℕ) → parts_of rest ≡ Some (part, behind) → (more : List (List ℕ)) → AreParts behind more → AreParts rest (part ∷ more)
before_more rest part behind e [] a = absurd a
before_more rest part behind e (q ∷ more) a = (behind, e, a)

texts_more : (so_far now : List (Bor (List ℕ))) (p : Bor (List ℕ)) → now ≡ so_far ++ p ∷ [] → texts now ≡ texts so_far ++ p.now ∷ []
texts_more so_far now p e = ap texts e ∙ map-append (λ (p : Bor (List ℕ)). p.now) so_far (p ∷ [])

-- one more part is cut off
pub one_cut : (bytes rest behind : List ℕ) (so_far now : List (Bor (List ℕ))) (p : Bor (List ℕ)) → parts_of rest ≡ Some (p.now, behind) → now ≡ so_far ++ p ∷ [] → IsCut bytes rest so_far
    → IsCut bytes behind now
one_cut bytes rest behind so_far now p e n c =
    let t = texts_more so_far now p n in
    let s = shorter rest p.now behind e in
    record {
      parts = λ more a. subst (AreParts bytes) (sym (ap (λ (w : List (List ℕ)). w ++ more) t ∙ append_assoc (texts so_far) (p.now ∷ []) more))
          (c.parts (p.now ∷ more) (before_more rest p.now behind e more a));
      small = subst (All (λ (p : List ℕ). length p ≤ MOST_BYTES)) (sym t) (All-push (λ (p : List ℕ). length p ≤ MOST_BYTES) (texts so_far) p.now c.small (omega (arith, c.within, s)));
      within = omega (arith, c.within, s);
    }

-- every list of bytes has parts
some_parts : (n : ℕ) (bytes : List ℕ) (o : Option Split) → parts_of bytes ≡ o → length bytes ≤ n → (parts : List (List ℕ)) × AreParts bytes parts
some_parts n bytes None e h = (bytes ∷ [], (e, refl))
some_parts zero bytes (Some p) e h = absurd (omega (arith, h, shorter bytes p.0 p.1 e))
some_parts (suc n) bytes (Some p) e h =
    let r = some_parts n p.1 (parts_of p.1) refl (omega (arith, h, shorter bytes p.0 p.1 e)) in
    (p.0 ∷ r.0, before_more bytes p.0 p.1 e r.0 r.1)

pub has_parts : (bytes : List ℕ) → (parts : List (List ℕ)) × AreParts bytes parts
has_parts bytes = some_parts (length bytes) bytes (parts_of bytes) refl (le_refl (length bytes))
