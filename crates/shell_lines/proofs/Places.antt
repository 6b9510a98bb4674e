-- If no element passes a test, a search finds none.
use Rattle.std.proofs.Common.{◌≡◌, ℕ, ◌<◌, Bool, false, List, [], length, get_or, None, position, refl, arith}
use Rattle.std.proofs.lemmas.Bool.{le-ltb}
use Rattle.std.proofs.lemmas.List.Sums.{position_or_len_is}

pub no_position : (p : List ℕ → Bool) (xs : List (List ℕ)) → ((k : ℕ) → k < length xs → p (get_or xs k []) ≡ false) → position p xs ≡ None
no_position p xs none =
    rw (position_or_len_is p xs (length xs) [] (omega arith) none (λ l. absurd (omega (arith, l))), le-ltb (length xs) (length xs) (omega arith)) refl
