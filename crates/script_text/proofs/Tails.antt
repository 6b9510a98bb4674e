-- The length of the text of a number, and the text of a signed number.
use Rattle.std.proofs.Common.{◌≡◌, ℕ, suc, ◌^◌, ◌<◌, ◌≤◌, List, ◌∷◌, ◌++◌, ◌+◌, ◌/◌, ◌%◌, length, ℤ, pos, negsuc, true, int_lt, unsigned_abs, refl, ap, ◌∙◌, arith, length-append}
use Rattle.std.proofs.lemmas.Bool.{leb-true}
use Rattle.std.specs.Fmt.{decimal, signed_decimal}
use Rattle.std.proofs.lemmas.Fmt.{decimal_digit, decimal_step, length-decimal-le}

pub length_natural : (n : ℕ) → n < 2 ^ 32 → length (decimal n) ≤ 10
length_natural n h = length-decimal-le 10 n (omega arith) (omega (arith, h)) (omega (arith, h))

pub length_magnitude : (n : ℕ) → n ≤ 2 ^ 63 → length (decimal n) ≤ 19
length_magnitude n h = length-decimal-le 19 n (omega arith) (omega (arith, h)) (omega (arith, h))

pub one_digit : (n : ℕ) (rest : List ℕ) → n < 10 → (48 + n) ∷ rest ≡ decimal n ++ rest
one_digit n rest small = rw (decimal_digit n small)

pub two_digits : (n : ℕ) (rest : List ℕ) → 10 ≤ n → n < 100 → (48 + n / 10) ∷ (48 + n % 10) ∷ rest ≡ decimal n ++ rest
two_digits n rest h small = rw (decimal_step n h (omega (arith, small)), decimal_digit (n / 10) (omega (arith, small)))

pub minus_first : (n : ℤ) → int_lt n (pos 0) ≡ true → 45 ∷ decimal (unsigned_abs n) ≡ signed_decimal n
minus_first (pos n) h = absurd (omega (arith, leb-true (suc n) 0 h))
minus_first (negsuc n) h = refl

-- a text is as long as its front and its rest
pub length_in_front : (w rest all : List ℕ) (n : ℕ) → all ≡ w ++ rest → length w ≤ n → length all ≤ length rest + n
length_in_front w rest all n is short = omega (arith, short, ap length is ∙ length-append w rest)
