-- Numbers in a script.
use Rattle.std.specs.Prelude.{ℕ, ◌-◌, ◌^◌, ℤ, pos, neg_ℤ, ◌&&◌, ◌==◌, nat_le, nat_lt, if◌then◌else◌, List, length, drop, slice_index, Option, Some, None, option_map, option_and_then}
use Rattle.std.specs.Str.{all_ascii_digits}
use Rattle.std.specs.Str.Parse.{digits_value}

-- one to twenty digits with a value of at most this
unfoldable pub number_upto : ℕ → List ℕ → Option ℕ
number_upto most w =
    if (nat_lt 0 (length w) && nat_le (length w) 20) && all_ascii_digits w && nat_le (digits_value 10 w) most
    then Some (digits_value 10 w) else None

-- the same with one `-` (45) before the digits or none, in 64 bits
unfoldable pub integer_of : List ℕ → Option ℤ
integer_of w =
    if slice_index w 0 == 45 then option_map (λ n. neg_ℤ (pos n)) (number_upto (2 ^ 63) (drop 1 w))
    else option_map pos (number_upto (2 ^ 63 - 1) w)

-- the same from 1 on
unfoldable pub number_from_one : ℕ → List ℕ → Option ℕ
number_from_one most w = option_and_then (λ n. if n == 0 then None else Some n) (number_upto most w)
