-- Printed names, transactions, cells and values are parsed back.
use Rattle.std.proofs.Common.{◌≡◌, ℕ, zero, suc, ◌-◌, ◌<◌, ◌≤◌, ◌^◌, ◌==◌, true, false, ◌&&◌, nat_le, List, [], ◌∷◌, length, slice_index, Option, Some, None, refl, arith}
use Rattle.std.specs.Prelude.{ℤ, pos, negsuc, decimal, codes}
use Rattle.std.specs.Fmt.{signed_decimal}
use Rattle.std.specs.Str.{bytes_eq}
use Rattle.std.specs.List.{list_all}
use Rattle.std.proofs.lemmas.Bool.{and_parts}
use Rattle.std.proofs.lemmas.Bool.Decides.{nat_tests}
use Rattle.teb_rules.specs.declared.names.Txn.{Txn}
use Rattle.teb_rules.specs.declared.names.Cell.{Cell}
use Rattle.teb_rules.specs.declared.names.naming.NameBook.{NameBook}
use Rattle.script_text.specs.Texts.{name_of, txn_text, value_text}
use Rattle.teb_rules.specs.names.Names.{is_name, is_name_byte, is_lower}
use Rattle.script_text.specs.Ranges.{TxnFits, IntegerFits, ValueFits}
use Rattle.audit_law.specs.Printed.{row_key_of}
use Rattle.audit_check.specs.Reading.{txn_at, name_at, row_key_at, value_at, number_at, from_one}
use Rattle.audit_law.proofs.Words.{is_plain, is_word}
use Rattle.audit_law.proofs.Digits.{natural_back, integer_back, first_is_digit, number_is_word, integer_is_word}

-- a transaction is parsed back
pub txn_back : (t : Txn) → TxnFits t → txn_at (txn_text t) ≡ Some t.0
unfolding txn_at
txn_back t h = natural_back (2 ^ 32 - 1) t.0 (omega (arith, h)) (omega (arith, h))

pub txn_is_word : (t : Txn) → TxnFits t → is_word (txn_text t) ≡ true
txn_is_word t h = number_is_word t.0 (omega (arith, h))

-- a key is parsed back
pub key_back : (k : ℕ) → k < 2 ^ 32 → number_at (decimal k) ≡ Some k
key_back k h = natural_back (2 ^ 32 - 1) k (omega (arith, h)) (omega (arith, h))

pub key_is_word : (k : ℕ) → k < 2 ^ 32 → is_word (decimal k) ≡ true
key_is_word k h = number_is_word k (omega (arith, h))

-- a number from 1 to `most` is parsed back
pub from_one_back : (most n : ℕ) → 0 < n → n ≤ most → n < 2 ^ 64 → from_one most (decimal n) ≡ Some n
unfolding from_one
from_one_back most n some within small =
    let other : (n == 0) ≡ false = grind (arith, nat_tests) in
    rw (natural_back most n within small, other)

-- a name is parsed back
name_byte_is_plain : (b : ℕ) → is_name_byte b ≡ true → is_plain b ≡ true
name_byte_is_plain b h = grind (arith, nat_tests)

name_bytes_are_plain : (w : List ℕ) → list_all is_name_byte w ≡ true → is_word w ≡ true
name_bytes_are_plain [] h = refl
name_bytes_are_plain (b ∷ bs) h =
    let (here, more) = and_parts (is_name_byte b) (list_all is_name_byte bs) h in
    rw (name_byte_is_plain b here, name_bytes_are_plain bs more)

pub name_is_word : (w : List ℕ) → is_name w ≡ true → is_word w ≡ true
unfolding is_name
name_is_word w h = name_bytes_are_plain w (and_parts (is_lower (slice_index w 0) && nat_le (length w) 32) (list_all is_name_byte w) h).1

pub name_of_is_name : (names : List (List ℕ)) (i : ℕ) → list_all is_name names ≡ true → i < length names → is_name (name_of names i) ≡ true
name_of_is_name [] i h within = absurd (omega (arith, within))
name_of_is_name (n ∷ ns) zero h within = (and_parts (is_name n) (list_all is_name ns) h).0
name_of_is_name (n ∷ ns) (suc i) h within = name_of_is_name ns i (and_parts (is_name n) (list_all is_name ns) h).1 (omega (arith, within))

pub name_back : (w : List ℕ) → is_name w ≡ true → name_at w ≡ Some w
unfolding name_at
name_back w h = rw h

-- a cell is parsed back
pub row_key_back : (names : NameBook) (x : Cell) → is_name (name_of names.tables x.table.0) ≡ true → x.key < 2 ^ 32
    → row_key_at (name_of names.tables x.table.0) (decimal x.key) ≡ Some (row_key_of names x)
row_key_back names x named small = rw (name_back (name_of names.tables x.table.0) named, key_back x.key small)

-- a value is parsed back
not_none : (w : List ℕ) → (slice_index w 0 == 110) ≡ false → bytes_eq w (codes "none") ≡ false
not_none [] h = refl
not_none (b ∷ bs) h = rw h

integer_is_some : (z : ℤ) → IntegerFits z → bytes_eq (signed_decimal z) (codes "none") ≡ false
integer_is_some (pos n) h = not_none (decimal n) (let digit = first_is_digit n (omega (arith, h)) in grind (arith, nat_tests))
integer_is_some (negsuc n) h = refl

pub value_back : (v : Option ℤ) → ValueFits v → value_at (value_text v) ≡ Some v
unfolding value_at
value_back None h = refl
value_back (Some z) h = rw (integer_is_some z h, integer_back z h)

pub value_is_word : (v : Option ℤ) → ValueFits v → is_word (value_text v) ≡ true
value_is_word None h = refl
value_is_word (Some z) h = integer_is_word z h
