-- Lists of names are equal if and only if the test says so.
use Rattle.std.proofs.Common.{◌≡◌, ℕ, ◌+◌, ◌<◌, true, false, List, [], length, get_or, Some, refl, sym, ◌∙◌, ap, subst, arith, inl, inr}
use Rattle.std.specs.Prelude.{slice_get}
use Rattle.std.specs.Bool.{Decides}
use Rattle.std.specs.Str.{bytes_eq}
use Rattle.std.proofs.lemmas.Bool.{both_ways, cases_eq, false_from_ne_true}
use Rattle.std.proofs.lemmas.List.{ext_get_or}
use Rattle.std.proofs.lemmas.Option.{get_or_from_slice_get}
use Rattle.std.proofs.lemmas.Slice.Eq.{slice_eq-Decides, bytes_eq-Decides}
use Rattle.tree_switch.specs.Names.{same_names}

pub same_decides : (xs ys : List (List ℕ)) → Decides (same_names xs ys) (xs ≡ ys)
same_decides xs ys = slice_eq-Decides bytes_eq-Decides xs ys (same_names xs ys) refl

-- lists with the same elements are equal, and different lists are not
pub all_same : (xs ys : List (List ℕ)) → length xs ≡ length ys → ((k : ℕ) → k < length xs → get_or xs k [] ≡ get_or ys k []) → true ≡ same_names xs ys
all_same xs ys n f = sym ((same_decides xs ys).1 (ext_get_or [] xs ys n f))

pub not_same : (xs ys : List (List ℕ)) → (xs ≡ ys → ⊥) → false ≡ same_names xs ys
not_same xs ys n = sym (false_from_ne_true _ (λ h. n ((same_decides xs ys).0 h)))

-- two names at the same index differ
pub differ_at : (xs ys : List (List ℕ)) (i : ℕ) (x y : List ℕ) → slice_get xs i ≡ Some x → slice_get ys i ≡ Some y → bytes_eq x y ≡ false → false ≡ same_names xs ys
differ_at xs ys i x y a b d = not_same xs ys (λ e. both_ways _ d ((bytes_eq-Decides x y).1 (some_is x y (sym a ∙ ap (λ (zs : List (List ℕ)). slice_get zs i) e ∙ b))))
  where
    some_is : (x y : List ℕ) → Some x ≡ Some y → x ≡ y
    some_is x y e = cc

-- two names at the same index are equal
pub same_so_far : (xs ys : List (List ℕ)) (i : ℕ) (x y : List ℕ) → slice_get xs i ≡ Some x → slice_get ys i ≡ Some y → bytes_eq x y ≡ true → ((k : ℕ) → k < i → get_or xs k [] ≡ get_or ys k [])
    → (k : ℕ) → k < i + 1 → get_or xs k [] ≡ get_or ys k []
same_so_far xs ys i x y a b s f k h = elim (cases_eq k i) [
  | inl e ↦ subst (λ (j : ℕ). get_or xs j [] ≡ get_or ys j []) (sym e) (get_or_from_slice_get xs i x [] a ∙ (bytes_eq-Decides x y).0 s ∙ sym (get_or_from_slice_get ys i y [] b))
  | inr n ↦ f k (omega (arith, h, n))
]
