-- Looks at a transaction that somebody waits for.
use Rattle.std.specs.Prelude.{◌≡◌, ℕ, ◌-◌, List, ◌++◌, All, length}

-- n more looks at the note of transaction t, each of which found 0
pub record LookedInVain (t n : ℕ) (before now : List (ℕ × ℕ)) : Type 0 where
  pub looks : List (ℕ × ℕ)
  pub count : length looks ≡ n
  pub each : All (λ look. look ≡ (t - 1, 0)) looks
  pub added : now ≡ looks ++ before
