-- Numbers read digit by digit, from the left.
use Rattle.std.proofs.Common.{◌≡◌, ℕ, ◌+◌, ◌*◌, ◌^◌, ◌<◌, ◌≤◌, List, [], ◌∷◌, length, get_or, drop, arith}
use Rattle.std.specs.Str.Parse.{digits_value_after}
use Rattle.std.specs.Char.{digit_value}
use Rattle.std.proofs.lemmas.List.{drop_more}
use Rattle.std.proofs.Math.Nat.{pow-le-pow_right}

-- more digits do not make a smaller number
pub grows : (n : ℕ) (ds : List ℕ) → n ≤ digits_value_after 10 n ds
grows n [] = omega arith
grows n (d ∷ ds) = omega (arith, grows (n * 10 + digit_value d) ds)

pub value_first : (w : List ℕ) (i n : ℕ) → i < length w → digits_value_after 10 n (drop i w) ≡ digits_value_after 10 (n * 10 + digit_value (get_or w i 0)) (drop (i + 1) w)
value_first w i n h = rw (drop_more w i 0 h)

-- a number of at most k digits is below 10 ^ k
pub below : (k n i : ℕ) → n < 10 ^ i → i ≤ k → n < 10 ^ k
below k n i h few = omega (arith, h, pow-le-pow_right {n = 10} (omega arith) few)
