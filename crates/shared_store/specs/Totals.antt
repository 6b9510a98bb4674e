-- How many commits the log has told that it keeps.
use Rattle.std.specs.Prelude.{◌≡◌, ℕ, max, List, [], ◌∷◌, ◌++◌, All}
use Rattle.shared_store.specs.declared.kept.Kept.{Kept}

abbrev pub writer_of : Kept → ℕ
writer_of k = k.by.0

-- the greatest of the totals
abbrev pub total_in : List Kept → ℕ
total_in [] = 0
total_in (k ∷ ks) = max k.total (total_in ks)

-- further entries, all at the log turn of session n
pub record TellsBy (n : ℕ) (old new : List Kept) : Type 0 where
  pub more : List Kept
  pub is : new ≡ old ++ more
  pub mine : All (λ k. writer_of k ≡ n) more
