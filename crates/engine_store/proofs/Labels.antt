-- Labels: one more name extends a label, and different names have different labels.
use Rattle.std.proofs.Common.{◌≡◌, ℕ, zero, suc, ◌+◌, true, List, [], ◌∷◌, ◌++◌, ◌&&◌, take, Some, slice_get, refl, ap, sym, subst, ◌∙◌, append_assoc, add-one}
use Rattle.std.specs.List.{list_all}
use Rattle.std.proofs.lemmas.List.{append-nil}
use Rattle.std.proofs.lemmas.Bool.{and_parts}
use Rattle.std.specs.Prelude.{slice_index, length, nat_le}
use Rattle.teb_rules.specs.names.Names.{is_lower, is_name, is_name_byte}
use Rattle.engine_store.specs.Label.{LabelTellsNames, label_of, line_of}

pub label_more : (names : List (List ℕ)) (i : ℕ) (name : List ℕ) → slice_get names i ≡ Some name → label_of (take (i + 1) names) ≡ label_of (take i names) ++ line_of name
label_more [] i name is = absurd (cc is)
label_more (n ∷ ns) zero name is =
    let same : n ≡ name = cc is in
    append-nil (line_of n) ∙ ap line_of same
label_more (n ∷ ns) (suc i) name is =
    ap (λ k. label_of (take k (n ∷ ns))) (add-one (suc i))
    ∙ ap (λ k. line_of n ++ label_of (take k ns)) (sym (add-one i))
    ∙ ap (λ l. line_of n ++ l) (label_more ns i name is)
    ∙ sym (append_assoc (line_of n) (label_of (take i ns)) (line_of name))

name_bytes : (name : List ℕ) → is_name name ≡ true → list_all is_name_byte name ≡ true
unfolding is_name
name_bytes name is = (and_parts (is_lower (slice_index name 0) && nat_le (length name) 32) (list_all is_name_byte name) is).1

-- no byte of a name is a newline
no_newline : (b : ℕ) → 10 ≡ b → is_name_byte b ≡ true → ⊥
no_newline b same is =
    let newline : is_name_byte 10 ≡ true = subst (λ (x : ℕ). is_name_byte x ≡ true) (sym same) is in
    cc newline

split : (n m x y : List ℕ) → list_all is_name_byte n ≡ true → list_all is_name_byte m ≡ true → n ++ 10 ∷ x ≡ m ++ 10 ∷ y → (n ≡ m) × (x ≡ y)
split [] [] x y a b e =
    let tail : x ≡ y = cc e in
    (refl, tail)
split [] (c ∷ m) x y a b e =
    let same : 10 ≡ c = cc e in
    absurd (no_newline c same (and_parts (is_name_byte c) (list_all is_name_byte m) b).0)
split (c ∷ n) [] x y a b e =
    let same : 10 ≡ c = cc e in
    absurd (no_newline c same (and_parts (is_name_byte c) (list_all is_name_byte n) a).0)
split (c ∷ n) (d ∷ m) x y a b e =
    let same : c ≡ d = cc e in
    let tail : n ++ 10 ∷ x ≡ m ++ 10 ∷ y = cc e in
    let rest = split n m x y (and_parts (is_name_byte c) (list_all is_name_byte n) a).1 (and_parts (is_name_byte d) (list_all is_name_byte m) b).1 tail in
    (λ i. same i ∷ rest.0 i, rest.1)

not_empty : (name rest : List ℕ) → [] ≡ line_of name ++ rest → ⊥
not_empty [] rest e = cc e
not_empty (c ∷ name) rest e = cc e

pub label_tells : LabelTellsNames
label_tells [] [] a b e = refl
label_tells [] (m ∷ ms) a b e = absurd (not_empty m (label_of ms) e)
label_tells (n ∷ ns) [] a b e = absurd (not_empty n (label_of ns) (sym e))
label_tells (n ∷ ns) (m ∷ ms) a b e =
    let p = and_parts (is_name n) (list_all is_name ns) a in
    let q = and_parts (is_name m) (list_all is_name ms) b in
    let joined : n ++ 10 ∷ label_of ns ≡ m ++ 10 ∷ label_of ms = sym (append_assoc n (10 ∷ []) (label_of ns)) ∙ e ∙ append_assoc m (10 ∷ []) (label_of ms) in
    let parts = split n m (label_of ns) (label_of ms) (name_bytes n p.0) (name_bytes m q.0) joined in
    λ i. parts.0 i ∷ label_tells ns ms p.1 q.1 parts.1 i
