-- What was written is read back.
use Rattle.std.proofs.Common.{◌≡◌, ◌≢◌, inl, inr, ℕ, zero, suc, ◌+◌, ◌-◌, ◌*◌, ◌<◌, ◌≤◌, ◌^◌, ltb, List, [], ◌∷◌, ◌++◌, length}
use Rattle.std.proofs.Common.{take, Option, Some, None, ℤ, pos, negsuc, refl, sym, ◌∙◌, ap, arith, append_assoc, length-append}
use Rattle.std.specs.Prelude.{IfSome, FitsSigned}
use Rattle.std.specs.List.{AllByRecursion}
use Rattle.std.specs.Int.{w32, w64, to_be_bytes, from_be_bytes, cast_unsigned, cast_signed}
use Rattle.std.proofs.lemmas.Bool.{cases_eq, cond-false, le-ltb}
use Rattle.std.proofs.lemmas.Bool.Decides.{nat_tests}
use Rattle.std.proofs.lemmas.List.{append-nil}
use Rattle.std.proofs.lemmas.Nat.{from_be_bytes-to_be_bytes_4, from_be_bytes-to_be_bytes_8}
use Rattle.std.proofs.lemmas.Int.{to_z-of_z}
use Rattle.record_journal.specs.declared.change.Change.{Change}
use Rattle.record_journal.specs.Format.{Record, entry, entries, body, records, ChangeFits, RecordFits, tag_of, number_of, value_of_tag, with_cell}
use Rattle.record_journal.specs.Format.{change_of, follow, changes_of, record_of, Reading, Whole, push, size, after_gate, reading, recovered}
use Rattle.record_journal.specs.Journal.{IsBeforeOrAfter}

-- ---- a change

pub length-entry : (c : Change) → length (entry c) ≡ 14
length-entry c = refl

value_again : (v : Option ℤ) → IfSome v (λ z. FitsSigned w64 z) → value_of_tag (tag_of v) (from_be_bytes w64 (to_be_bytes w64 (number_of v))) ≡ Some v
unfolding value_of_tag
value_again None fits = refl
value_again (Some z) fits = ap (λ (y : ℤ). Some (Some y)) (ap (λ (n : ℕ). cast_signed w64 n) (from_be_bytes-to_be_bytes_8 (cast_unsigned w64 z) (below z fits)) ∙ to_z-of_z w64 z fits)
  where
    below : (z : ℤ) → FitsSigned w64 z → cast_unsigned w64 z < 2 ^ 64
    below (pos n) fits = omega (arith, fits)
    below (negsuc n) fits = omega (arith, fits)

change_again : (c : Change) → ChangeFits c → change_of (entry c) ≡ Some c
change_again c fits =
    ap (λ (k : ℕ). with_cell (record { table = c.cell.table; key = k }) (value_of_tag (tag_of c.value) (from_be_bytes w64 (to_be_bytes w64 (number_of c.value)))))
    (from_be_bytes-to_be_bytes_4 c.cell.key fits.key)
    ∙ ap (λ (v : Option (Option ℤ)). with_cell c.cell v) (value_again c.value fits.value)

pub length-entries : (r : Record) → length (entries r) ≡ 14 * length r
length-entries [] = refl
length-entries (c ∷ cs) = omega (arith, length-append (entry c) (entries cs), length-entry c, length-entries cs)

changes_again : (r : Record) (rest : List ℕ) → AllByRecursion ChangeFits r → changes_of (length r) (entries r ++ rest) ≡ Some r
unfolding changes_of
changes_again [] rest fit = refl
changes_again (c ∷ cs) rest fit =
    cond-false (ltb (length (entries (c ∷ cs) ++ rest)) 14) None (follow (change_of (entry c)) (changes_of (length cs) (entries cs ++ rest)))
    (le-ltb (length (entries (c ∷ cs) ++ rest)) 14 (omega (arith, length-append (entries (c ∷ cs)) rest, length-entries (c ∷ cs))))
    ∙ ap (λ (first : Option Change). follow first (changes_of (length cs) (entries cs ++ rest))) (change_again c fit.0)
    ∙ ap (λ (others : Option Record). follow (Some c) others) (changes_again cs rest fit.1)

-- ---- a record

pub length-body : (r : Record) → length (body r) ≡ size r
length-body r = omega (arith, length-append (to_be_bytes w32 (length r)) (entries r), length-entries r)

record_again : (r : Record) (rest : List ℕ) → RecordFits r → record_of (body r ++ rest) ≡ Some r
unfolding record_of
record_again r rest fits =
    cond-false (ltb (length (body r ++ rest)) 4) None (changes_of (from_be_bytes w32 (to_be_bytes w32 (length r))) (entries r ++ rest))
    (le-ltb (length (body r ++ rest)) 4 (omega (arith, length-append (body r) rest, length-body r)))
    ∙ ap (λ (n : ℕ). changes_of n (entries r ++ rest)) (from_be_bytes-to_be_bytes_4 (length r) fits.count) ∙ changes_again r rest fits.each

-- ---- a journal

-- the reading skips the bytes of a record
pub skips : (n at : ℕ) (bytes rest : List ℕ) → n ≡ length bytes → reading n at (bytes ++ rest) ≡ reading 0 (at + n) rest
unfolding reading
skips zero at [] rest is = ap (λ (k : ℕ). reading 0 k rest) (omega arith)
skips zero at (b ∷ bytes) rest is = absurd (omega arith)
skips (suc n) at [] rest is = absurd (omega arith)
skips (suc n) at (b ∷ bytes) rest is = skips n (suc at) bytes rest (omega arith) ∙ ap (λ (k : ℕ). reading 0 k rest) (omega arith)

abbrev pub push_all : List Record → Reading → Reading
push_all [] x = x
push_all (r ∷ rs) x = push r (push_all rs x)

pub pushed : (rs qs : List Record) → push_all rs (Whole qs) ≡ Whole (rs ++ qs)
pushed [] qs = refl
pushed (r ∷ rs) qs = ap (push r) (pushed rs qs)

pub reading_open : (at : ℕ) (bytes : List ℕ) (r : Record) → record_of bytes ≡ Some r → reading 0 at (1 ∷ bytes) ≡ push r (reading (size r) (suc at) bytes)
unfolding reading
reading_open at bytes r is = ap (λ (o : Option Record). after_gate at o (λ n. reading n (suc at) bytes)) is

-- records, and then whatever the rest is read as
pub reading_records : (rs : List Record) (at : ℕ) (rest : List ℕ) → AllByRecursion RecordFits rs → reading 0 at (records rs ++ rest) ≡ push_all rs (reading 0 (at + length (records rs)) rest)
reading_records [] at rest fit = ap (λ (k : ℕ). reading 0 k rest) (omega arith)
reading_records (r ∷ rs) at rest fit =
    ap (λ (l : List ℕ). reading 0 at (1 ∷ l)) (append_assoc (body r) (records rs) rest)
    ∙ reading_open at (body r ++ (records rs ++ rest)) r (record_again r (records rs ++ rest) fit.0)
    ∙ ap (push r) (skips (size r) (suc at) (body r) (records rs ++ rest) (sym (length-body r)) ∙ reading_records rs (suc at + size r) rest fit.1
    ∙ ap (λ (k : ℕ). push_all rs (reading 0 k rest)) (omega (arith, length-append (body r) (records rs), length-body r)))

pub reading_closed : (at gate : ℕ) (rest : List ℕ) → gate ≢ 1 → reading 0 at (gate ∷ rest) ≡ Whole []
unfolding reading
reading_closed at gate rest shut = grind (arith, nat_tests)

pub take_past : (xs ys : List ℕ) (m n : ℕ) → m ≡ length xs + n → take m (xs ++ ys) ≡ xs ++ take n ys
take_past [] ys m n is = let same : m ≡ n = omega arith in ap (λ (k : ℕ). take k ys) same
take_past (x ∷ xs) ys zero n is = absurd (omega arith)
take_past (x ∷ xs) ys (suc m) n is = ap (λ (l : List ℕ). x ∷ l) (take_past xs ys m n (omega arith))

-- a closed gate ends the records, whatever follows it
pub recovered_closed : (limit : ℕ) (rs : List Record) (gate : ℕ) (rest : List ℕ) → AllByRecursion RecordFits rs → length (records rs) < limit → gate ≢ 1
    → recovered limit (records rs ++ gate ∷ rest) ≡ Whole rs
unfolding recovered
recovered_closed limit rs gate rest fit below shut =
    let m = limit - length (records rs) - 1 in
    ap (reading 0 0) (take_past (records rs) (gate ∷ rest) limit (suc m) (omega arith))
    ∙ reading_records rs 0 (gate ∷ take m rest) fit
    ∙ ap (push_all rs) (reading_closed (0 + length (records rs)) gate (take m rest) shut)
    ∙ pushed rs []
    ∙ ap Whole (append-nil rs)

pub records-push : (rs : List Record) (r : Record) (rest : List ℕ) → records (rs ++ r ∷ []) ++ rest ≡ records rs ++ 1 ∷ (body r ++ rest)
records-push [] r rest = ap (λ (l : List ℕ). 1 ∷ l) (append_assoc (body r) [] rest)
records-push (q ∷ rs) r rest =
    ap (λ (l : List ℕ). 1 ∷ l) (append_assoc (body q) (records (rs ++ r ∷ [])) rest ∙ ap (λ (l : List ℕ). body q ++ l) (records-push rs r rest)
    ∙ sym (append_assoc (body q) (records rs) (1 ∷ (body r ++ rest))))

pub length-records-push : (rs : List Record) (r : Record) → length (records (rs ++ r ∷ [])) ≡ length (records rs) + 1 + size r
length-records-push [] r = omega (arith, length-append (body r) [], length-body r)
length-records-push (q ∷ rs) r = omega (arith, length-append (body q) (records (rs ++ r ∷ [])), length-append (body q) (records rs), length-records-push rs r)

pub all_push : {X : Type 0} (P : X → Type 0) (xs : List X) (x : X) → AllByRecursion P xs → P x → AllByRecursion P (xs ++ x ∷ [])
all_push P [] x all one = (one, tt)
all_push P (y ∷ xs) x all one = (all.0, all_push P xs x all.1 one)

-- a whole record after any gate byte counts or does not count
pub recovered_gate : (limit : ℕ) (rs : List Record) (r : Record) (gate : ℕ) (rest : List ℕ) → AllByRecursion RecordFits rs → RecordFits r → length (records rs) + size r + 2 ≤ limit
    → IsBeforeOrAfter limit rs r (records rs ++ gate ∷ (body r ++ 0 ∷ rest))
recovered_gate limit rs r gate rest fit fits room = elim (cases_eq gate 1) [
  | inl is_open ↦ inr (ap (λ (g : ℕ). recovered limit (records rs ++ g ∷ (body r ++ 0 ∷ rest))) is_open ∙ ap (recovered limit) (sym (records-push rs r (0 ∷ rest)))
      ∙ recovered_closed limit (rs ++ r ∷ []) 0 rest (all_push RecordFits rs r fit fits) (omega (arith, length-records-push rs r)) (omega arith))
  | inr shut ↦ inl (recovered_closed limit rs gate (body r ++ 0 ∷ rest) fit (omega arith) shut)
]
