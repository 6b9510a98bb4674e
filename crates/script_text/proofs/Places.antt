-- The first place that passes a test.
use Rattle.std.proofs.Common.{◌≡◌, ℕ, ◌≤◌, Bool, true, false, cond, ltb, not, List, length, get_or, Option, Some, None, unwrap_or, position, refl, arith, lt-ltb}
use Rattle.std.specs.List.{position_or_len}
use Rattle.std.proofs.lemmas.Bool.Decides.{nat_tests}
use Rattle.std.proofs.lemmas.List.Sums.{prefix_len-le-length, position_or_len_is}
use Rattle.memchr.specs.Find.{IsFirstByte}

unwrap_cond : (n m : ℕ) → n ≤ m → unwrap_or (cond (ltb n m) (Some n) None) m ≡ n
unwrap_cond n m h = grind (arith, nat_tests)

pub unwrap_position : (p : ℕ → Bool) (xs : List ℕ) → unwrap_or (position p xs) (length xs) ≡ position_or_len p xs
unwrap_position p xs = unwrap_cond _ _ (prefix_len-le-length (λ x. not (p x)) xs)

pub position_within : (p : ℕ → Bool) (xs : List ℕ) → position_or_len p xs ≤ length xs
position_within p xs = prefix_len-le-length (λ x. not (p x)) xs

isnt : (b : Bool) → (b ≡ true → ⊥) → b ≡ false
isnt true h = absurd (h refl)
isnt false h = refl

none_of : (n m : ℕ) → n ≡ m → None ≡ cond (ltb n m) (Some n) None
none_of n m h = grind (arith, nat_tests)

-- the first byte that passes is at its place
pub position_first : (p : ℕ → Bool) (xs : List ℕ) (r : Option ℕ) → IsFirstByte p xs r → r ≡ position p xs
position_first p xs None h =
    none_of _ _ (position_or_len_is p xs (length xs) 0 (omega arith) (λ k l. isnt (p (get_or xs k 0)) (h k (omega arith) l)) (λ l. absurd (omega (arith, l))))
position_first p xs (Some k) h =
    let at = position_or_len_is p xs k 0 (omega (arith, h.0.high)) (λ j l. isnt (p (get_or xs j 0)) (h.0.before j (omega arith) l)) (λ l. h.1) in
    rw (at, lt-ltb k (length xs) h.0.high)
