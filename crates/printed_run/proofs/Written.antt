-- Texts that are written one element after the other.
use Rattle.std.proofs.Common.{◌≡◌, ℕ, ◌+◌, ◌<◌, List, ◌++◌, length, drop, get_or, sym, ap, ◌∙◌, append_assoc}
use Rattle.std.specs.List.{flat_map}
use Rattle.std.proofs.lemmas.List.{drop_more}

-- one more element is written; the rest is still to be written
pub written_more : {A : Type 0} (f : A → List ℕ) (xs : List A) (i : ℕ) (d : A) (old new whole : List ℕ) → i < length xs → new ≡ old ++ f (get_or xs i d)
    → old ++ flat_map f (drop i xs) ≡ whole → new ++ flat_map f (drop (i + 1) xs) ≡ whole
written_more f xs i d old new whole low put rest =
    ap (λ l. l ++ flat_map f (drop (i + 1) xs)) put ∙ append_assoc old (f (get_or xs i d)) (flat_map f (drop (i + 1) xs)) ∙ ap (λ l. old ++ flat_map f l) (sym (drop_more xs i d low)) ∙ rest
