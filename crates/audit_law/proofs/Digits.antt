-- A printed number is parsed back.
use Rattle.std.proofs.Common.{◌≡◌, ℕ, suc, ◌-◌, ◌<◌, ◌≤◌, ◌^◌, ◌==◌, true, false, nat_le, get_or, slice_index, Some, arith}
use Rattle.std.specs.Prelude.{ℤ, pos, negsuc, decimal}
use Rattle.std.specs.Fmt.{signed_decimal}
use Rattle.std.specs.Int.{IsInRange}
use Rattle.std.specs.Str.{bytes_eq}
use Rattle.std.specs.Str.Parse.{digits_value, AllDigits}
use Rattle.std.proofs.lemmas.Fmt.{decimal_is_IsNumeral, decimal_nonempty}
use Rattle.std.proofs.lemmas.Str.Parse.{digit_at}
use Rattle.std.proofs.lemmas.Cmp.{nat_list_eq_equiv}
use Rattle.std.proofs.lemmas.Bool.Decides.{nat_tests}
use Rattle.std.proofs.lemmas.List.Elements.{All-from_get_or}
use Rattle.std.proofs.lemmas.List.Sums.{list_all-from_AllPass}
use lib.Signed.{mag}
use Rattle.audit_law.proofs.Words.{is_plain, is_word}
use Rattle.audit_check.specs.Numbers.{natural_of, integer_of}

pub natural_back : (most n : ℕ) → n ≤ most → n < 2 ^ 64 → natural_of most (decimal n) ≡ Some n
unfolding natural_of
natural_back most n within small =
    let value : digits_value 10 (decimal n) ≡ n = (decimal_is_IsNumeral n small).1 in
    let same : bytes_eq (decimal n) (decimal n) ≡ true = nat_list_eq_equiv.refl (decimal n) in
    let low : nat_le n most ≡ true = grind (arith, nat_tests) in
    rw (value, low, same)

digits_of : (n : ℕ) → n < 2 ^ 64 → AllDigits 10 (decimal n)
digits_of n small = (decimal_is_IsNumeral n small).0.1

-- a number begins with a digit
pub first_is_digit : (n : ℕ) → n < 2 ^ 64 → IsInRange 48 57 (get_or (decimal n) 0 0)
first_is_digit n small = digit_at (decimal n) 0 (digits_of n small) (decimal_nonempty n small)

first_digit : (n : ℕ) → n < 2 ^ 64 → (slice_index (decimal n) 0 == 45) ≡ false
first_digit n small =
    let digit = first_is_digit n small in
    grind (arith, nat_tests)

pub integer_back : (z : ℤ) → mag z < 2 ^ 63 → integer_of (signed_decimal z) ≡ Some z
unfolding integer_of
integer_back (pos n) h = rw (first_digit n (omega (arith, h)), natural_back (2 ^ 63 - 1) n (omega (arith, h)) (omega (arith, h)))
integer_back (negsuc n) h = rw (natural_back (2 ^ 63) (suc n) (omega (arith, h)) (omega (arith, h)))

-- no byte of a number is a space or a line feed
pub number_is_word : (n : ℕ) → n < 2 ^ 64 → is_word (decimal n) ≡ true
number_is_word n small =
    let digits = digits_of n small in
    list_all-from_AllPass is_plain (decimal n) (All-from_get_or (λ b. is_plain b ≡ true) (decimal n) 0
    (λ i within. let digit = digit_at (decimal n) i digits within in grind (arith, nat_tests, digit)))

pub integer_is_word : (z : ℤ) → mag z < 2 ^ 63 → is_word (signed_decimal z) ≡ true
integer_is_word (pos n) h = number_is_word n (omega (arith, h))
integer_is_word (negsuc n) h = number_is_word (suc n) (omega (arith, h))
