-- What a function tells of the values of a `Vec`, after all of them were written in place.
use Rattle.std.proofs.Common.{◌≡◌, ℕ, suc, ◌<◌, List, [], ◌∷◌, ◌++◌, map, length, get_or, take, drop, refl, ◌∙◌, ap, arith}
use Rattle.std.proofs.Math.Seq.{take-append_seam}

module _ {A B : Type 0} (f : A → B) where
  same_map : (old new : List A) → length new ≡ length old → ((i : ℕ) (d : A) → i < length old → f (get_or new i d) ≡ f (get_or old i d)) → map f new ≡ map f old
  same_map [] [] l each = refl
  same_map [] (y ∷ ys) l each = absurd (omega arith)
  same_map (x ∷ xs) [] l each = absurd (omega arith)
  same_map (x ∷ xs) (y ∷ ys) l each =
      let first : f y ≡ f x = each 0 x (omega arith) in
      let rest = same_map xs ys (omega arith) (λ i d b. each (suc i) d (omega arith)) in
      λ i. first i ∷ rest i

  -- a function that has the same value for each element before and after has the same values over the list
  pub map_written : (n : ℕ) (all old new : List A) → old ≡ all → length new ≡ length old → n ≡ length new
      → ((i : ℕ) (d : A) → i < length old → f (get_or new i d) ≡ f (get_or old i d)) → map f (take n (new ++ drop (length new) all)) ≡ map f all
  map_written n all old new same l count each =
      ap (λ k. map f (take k (new ++ drop (length new) all))) count
      ∙ (ap (map f) (take-append_seam new (drop (length new) all)) ∙ (same_map old new l each ∙ ap (map f) same))
