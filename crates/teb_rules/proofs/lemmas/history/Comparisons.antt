-- What the result of a comparison of two numbers implies.
use Rattle.std.proofs.Common.{◌≡◌, ◌<◌, ◌≤◌, ℕ, Bool, true, false, ltb, ◌⊎◌, inl, inr, refl}
use Rattle.std.proofs.lemmas.Bool.{ltb-true, ltb-false}

pub ltb_tells : (a b : ℕ) → ((ltb a b ≡ true) × (a < b)) ⊎ ((ltb a b ≡ false) × (b ≤ a))
ltb_tells a b = go (ltb a b) refl
  where
    go : (c : Bool) → ltb a b ≡ c → ((ltb a b ≡ true) × (a < b)) ⊎ ((ltb a b ≡ false) × (b ≤ a))
    go true h = inl (h, ltb-true a b h)
    go false h = inr (h, ltb-false a b h)
