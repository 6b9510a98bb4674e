-- Lists of places that are linked by index.
use Rattle.std.specs.Prelude.{◌≡◌, ℕ, zero, suc, [], ◌∷◌, ◌+◌, ◌-◌, ◌<◌, List, length, slice_index}

-- The places that are mine, in one list: the first, the number of them, and from each the next.
pub record Thread (mine : ℕ → Type 0) (next : ℕ → ℕ) (first len : ℕ) : Type 0 where
  pub places : List ℕ
  pub count : length places ≡ len
  pub head : 0 < len → first ≡ slice_index places 0
  pub link : (j : ℕ) → j + 1 < len → next (slice_index places j) ≡ slice_index places (j + 1)
  pub inside : (j : ℕ) → j < len → mine (slice_index places j)
  pub distinct : (i j : ℕ) → i < len → j < len → slice_index places i ≡ slice_index places j → i ≡ j
  pub complete : (p : ℕ) → mine p → (j : ℕ) × ((j < len) × (slice_index places j ≡ p))

-- The same in a ring: the last leads to the first, and the way back undoes each step.
pub record Ring (mine : ℕ → Type 0) (next previous : ℕ → ℕ) (first len : ℕ) : Type 0 where
  pub thread : Thread mine next first len
  pub closes : 0 < len → next (slice_index thread.places (len - 1)) ≡ first
  pub back : (p : ℕ) → mine p → previous (next p) ≡ p

-- the places that the links lead to, one after another
abbrev pub walk : (ℕ → ℕ) → ℕ → ℕ → List ℕ
walk next zero p = []
walk next (suc n) p = p ∷ walk next n (next p)

-- the place that many steps away
abbrev pub steps : (ℕ → ℕ) → ℕ → ℕ → ℕ
steps link zero p = p
steps link (suc n) p = link (steps link n p)
