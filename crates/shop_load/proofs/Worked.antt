-- Worked draws: the first ones from 1.
use Rattle.std.proofs.Common.{◌≡◌, [], ◌∷◌, map, refl}
use Rattle.shop_load.specs.Loads.{drawn_from, state}

first_draws : map (λ n. drawn_from (state 1 n)) (0 ∷ 1 ∷ 2 ∷ 3 ∷ 4 ∷ 5 ∷ []) ≡ 16838 ∷ 5758 ∷ 10113 ∷ 17515 ∷ 31051 ∷ 5627 ∷ []
unfolding state
first_draws = refl
