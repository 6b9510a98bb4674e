-- Names are copied one at a time.
use Rattle.std.proofs.Common.{◌≡◌, ℕ, zero, suc, ◌+◌, ◌<◌, Bool, false, not, ◌||◌, if◌then◌else◌, List, [], ◌∷◌, ◌++◌, Some, length, get_or, take, slice_get, refl, sym, ◌∙◌, ap, ap₂, arith}
use Rattle.std.specs.List.{list_any}
use Rattle.std.specs.Str.{bytes_eq}
use Rattle.std.proofs.lemmas.List.{take_more}
use Rattle.std.proofs.lemmas.List.Quantifiers.{position-Some}
use Rattle.std.proofs.lemmas.Option.{get_or_from_slice_get}
use Rattle.teb_rules.specs.names.Names.{has, number_of}

none_before : (p : List ℕ → Bool) (xs : List (List ℕ)) (i : ℕ) (d : List ℕ) → ((k : ℕ) → k < i → p (get_or xs k d) ≡ false) → i < suc (length xs) → list_any p (take i xs) ≡ false
none_before p xs zero d h lt = refl
none_before p [] (suc i) d h lt = absurd (omega arith)
none_before p (x ∷ xs) (suc i) d h lt = ap₂ (λ (a b : Bool). a || b) (h zero (omega arith)) (none_before p xs i d (λ k low. h (suc k) (omega arith)) (omega arith))

-- the first i names with the next one appended are the first i + 1
pub copied_more : (names old new : List (List ℕ)) (i : ℕ) (name : List ℕ) (added : Bool) → old ≡ take i names → slice_get names i ≡ Some name → number_of names name ≡ Some i
    → added ≡ not (has old name)
    → new ≡ (if added then old ++ name ∷ [] else old) → new ≡ take (i + 1) names
copied_more names old new i name added is at number fresh adds =
    let first = position-Some (bytes_eq name) names i [] number in
    let absent : has old name ≡ false = ap (λ (l : List (List ℕ)). has l name) is ∙ none_before (bytes_eq name) names i [] first.2 (omega (arith, first.0)) in
    adds
    ∙ ap (λ (b : Bool). if b then old ++ name ∷ [] else old) (fresh ∙ ap not absent)
    ∙ ap₂ (λ (l : List (List ℕ)) (n : List ℕ). l ++ n ∷ []) is (sym (get_or_from_slice_get names i name [] at))
    ∙ sym (take_more names i [] first.0)
