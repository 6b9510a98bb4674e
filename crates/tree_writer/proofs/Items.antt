-- Items with commas between them, and rows, one after another.
use Rattle.std.proofs.Common.{◌≡◌, ℕ, ◌+◌, ◌<◌, Bool, false, List, ◌∷◌, ◌++◌, length, get_or, drop, map, Some, slice_get, sym, ap, ◌∙◌, append_assoc}
use Rattle.std.specs.List.{flat_map}
use Rattle.std.proofs.lemmas.List.{drop_more}
use Rattle.std.proofs.lemmas.Option.{slice_get_within, get_or_from_slice_get}
use Rattle.tree_writer.specs.Written.{items_text, separator}

pub item_more : {X : Type 0} (f : X → List ℕ) (xs : List X) (i : ℕ) (x : X) (is_first : Bool) (out new all : List ℕ) → slice_get xs i ≡ Some x → new ≡ out ++ (separator is_first ++ f x)
    → out ++ items_text is_first (map f (drop i xs)) ≡ all → new ++ items_text false (map f (drop (i + 1) xs)) ≡ all
item_more {X = X} f xs i x is_first out new all read put so_far =
    let left : drop i xs ≡ x ∷ drop (i + 1) xs = drop_more xs i x (slice_get_within xs i x read) ∙ ap (λ (y : X). y ∷ drop (i + 1) xs) (get_or_from_slice_get xs i x x read) in
    let tail : List ℕ = items_text false (map f (drop (i + 1) xs)) in
    ap (λ (l : List ℕ). l ++ tail) put ∙ append_assoc out (separator is_first ++ f x) tail ∙ ap (λ (l : List X). out ++ items_text is_first (map f l)) (sym left) ∙ so_far

pub row_more : {X : Type 0} (f : X → List ℕ) (xs : List X) (i : ℕ) (d : X) (out new all : List ℕ) → i < length xs → new ≡ out ++ f (get_or xs i d) → out ++ flat_map f (drop i xs) ≡ all → new
    ++ flat_map f (drop (i + 1) xs) ≡ all
row_more {X = X} f xs i d out new all low put so_far =
    ap (λ (l : List ℕ). l ++ flat_map f (drop (i + 1) xs)) put ∙ append_assoc out (f (get_or xs i d)) (flat_map f (drop (i + 1) xs))
    ∙ ap (λ (l : List X). out ++ flat_map f l) (sym (drop_more xs i d low)) ∙ so_far
