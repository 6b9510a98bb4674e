-- Reading records one after the other.
use Rattle.std.proofs.Common.{◌≡◌, ◌≢◌, inl, inr, ◌⊎◌, ℕ, zero, suc, ◌+◌, ◌-◌, ◌*◌, ◌<◌, ◌≤◌, min, ltb, List, [], ◌∷◌, ◌++◌}
use Rattle.std.proofs.Common.{length, get_or, take, drop, Option, Some, None, refl, sym, ◌∙◌, ap, arith, length-drop}
use Rattle.std.specs.Int.{w32, from_be_bytes}
use Rattle.std.proofs.lemmas.Bool.{cases_lt, cond-true, cond-false, lt-ltb, le-ltb}
use Rattle.std.proofs.lemmas.List.{take-take, take_all, drop-take, drop-drop, length-take}
use Rattle.record_journal.specs.declared.change.Change.{Change}
use Rattle.record_journal.specs.Format.{Record, change_of, follow, changes_of, record_of, Reading, Whole, Damaged, size, reading}
use Rattle.epoch_journal.specs.Next.{IsNext, HasNone, count_in}
use Rattle.record_journal.proofs.Spelled.{push_all, reading_closed}
use Rattle.record_journal.proofs.Reading.{reading_nil, reads_on, damaged}

-- ---- changes

step_short : (n : ℕ) (bytes : List ℕ) → length bytes < 14 → changes_of (suc n) bytes ≡ None
unfolding changes_of
step_short n bytes lt = cond-true (ltb (length bytes) 14) None (follow (change_of (take 14 bytes)) (changes_of n (drop 14 bytes))) (lt-ltb (length bytes) 14 lt)

step_long : (n : ℕ) (bytes : List ℕ) → 14 ≤ length bytes → changes_of (suc n) bytes ≡ follow (change_of (take 14 bytes)) (changes_of n (drop 14 bytes))
unfolding changes_of
step_long n bytes le = cond-false (ltb (length bytes) 14) None (follow (change_of (take 14 bytes)) (changes_of n (drop 14 bytes))) (le-ltb (length bytes) 14 le)

follow_none : (c : Option Change) → follow c None ≡ None
follow_none None = refl
follow_none (Some c) = refl

too_few : (n : ℕ) (bytes : List ℕ) → length bytes < 14 * n → changes_of n bytes ≡ None
too_few zero bytes below = absurd (omega arith)
too_few (suc n) bytes below = elim (cases_lt (length bytes) 14) [
  | inl lt ↦ step_short n bytes lt
  | inr le ↦ step_long n bytes le ∙ ap (λ (o : Option Record). follow (change_of (take 14 bytes)) o) (too_few n (drop 14 bytes) (omega (arith, length-drop 14 bytes)))
      ∙ follow_none (change_of (take 14 bytes))
]

no_changes : (x y : List ℕ) → changes_of 0 x ≡ changes_of 0 y
unfolding changes_of
no_changes x y = refl

changes_front : (n m : ℕ) (bytes : List ℕ) → m ≡ 14 * n → m ≤ length bytes → changes_of n (take m bytes) ≡ changes_of n bytes
changes_front zero m bytes is le = no_changes (take m bytes) bytes
changes_front (suc n) m bytes is le =
    let k = m - 14 in
    let same : m ≡ 14 + k = omega arith in
    step_long n (take m bytes) (omega (arith, length-take m bytes))
    ∙ ap (λ (t : List ℕ). follow (change_of t) (changes_of n (drop 14 (take m bytes)))) (take-take 14 m bytes (omega arith))
    ∙ ap (λ (t : List ℕ). follow (change_of (take 14 bytes)) (changes_of n t)) (ap (λ (j : ℕ). drop 14 (take j bytes)) same ∙ drop-take 14 k bytes)
    ∙ ap (λ (o : Option Record). follow (change_of (take 14 bytes)) o) (changes_front n k (drop 14 bytes) (omega arith) (omega (arith, length-drop 14 bytes)))
    ∙ sym (step_long n bytes (omega arith))

follow_count : (c : Option Change) (o : Option Record) (r : Record) → follow c o ≡ Some r → (q : Record) × (o ≡ Some q) × (length r ≡ suc (length q))
follow_count None o r is = absurd (cc)
follow_count (Some c) None r is = absurd (cc)
follow_count (Some c) (Some q) r is =
    let same : r ≡ c ∷ q = cc in
    (q, refl, ap length same)

none_left : (bytes : List ℕ) (r : Record) → changes_of 0 bytes ≡ Some r → length r ≡ 0
unfolding changes_of
none_left bytes r is =
    let same : r ≡ [] = cc in
    ap length same

pub changes_count : (n : ℕ) (bytes : List ℕ) (r : Record) → changes_of n bytes ≡ Some r → length r ≡ n
changes_count zero bytes r is = none_left bytes r is
changes_count (suc n) bytes r is = elim (cases_lt (length bytes) 14) [
  | inl lt ↦ let none = step_short n bytes lt in absurd (cc (none, is))
  | inr le ↦
      let f = follow_count (change_of (take 14 bytes)) (changes_of n (drop 14 bytes)) r (sym (step_long n bytes le) ∙ is) in
      let fewer = changes_count n (drop 14 bytes) f.0 f.1 in
      omega (arith, f.2, fewer)
]

-- ---- a record

record_short : (bytes : List ℕ) → length bytes < 4 → record_of bytes ≡ None
unfolding record_of
record_short bytes lt = cond-true (ltb (length bytes) 4) None (changes_of (from_be_bytes w32 (take 4 bytes)) (drop 4 bytes)) (lt-ltb (length bytes) 4 lt)

record_long : (bytes : List ℕ) → 4 ≤ length bytes → record_of bytes ≡ changes_of (from_be_bytes w32 (take 4 bytes)) (drop 4 bytes)
unfolding record_of
record_long bytes le = cond-false (ltb (length bytes) 4) None (changes_of (from_be_bytes w32 (take 4 bytes)) (drop 4 bytes)) (le-ltb (length bytes) 4 le)

module _ (count : ℕ) (bytes : List ℕ) (counted : count ≡ from_be_bytes w32 (take 4 bytes)) (four : 4 ≤ length bytes) where
  pub record_over : length bytes < 4 + 14 * count → record_of bytes ≡ None
  record_over lt = record_long bytes four ∙ ap (λ (n : ℕ). changes_of n (drop 4 bytes)) (sym counted) ∙ too_few count (drop 4 bytes) (omega (arith, length-drop 4 bytes))

  pub record_count : (r : Record) → record_of bytes ≡ Some r → length r ≡ count
  record_count r is = changes_count count (drop 4 bytes) r (ap (λ (n : ℕ). changes_of n (drop 4 bytes)) counted ∙ sym (record_long bytes four) ∙ is)

  pub record_front : (m : ℕ) → m ≡ 4 + 14 * count → m ≤ length bytes → record_of (take m bytes) ≡ record_of bytes
  record_front m is le =
      let k = m - 4 in
      let same : m ≡ 4 + k = omega arith in
      record_long (take m bytes) (omega (arith, length-take m bytes))
      ∙ ap (λ (t : List ℕ). changes_of (from_be_bytes w32 t) (drop 4 (take m bytes))) (take-take 4 m bytes (omega arith))
      ∙ ap (λ (n : ℕ). changes_of n (drop 4 (take m bytes))) (sym counted)
      ∙ ap (λ (t : List ℕ). changes_of count t) (ap (λ (j : ℕ). drop 4 (take j bytes)) same ∙ drop-take 4 k bytes)
      ∙ changes_front count k (drop 4 bytes) (omega arith) (omega (arith, length-drop 4 bytes))
      ∙ ap (λ (n : ℕ). changes_of n (drop 4 bytes)) counted
      ∙ sym (record_long bytes four)

-- ---- a mark, and what follows it

pub no_mark : (area front : List ℕ) → front ≡ take 5 area → (length front ≡ 0) ⊎ (get_or front 0 0 ≢ 1) → (place : ℕ) → reading 0 place area ≡ Whole []
no_mark [] front is none place = reading_nil place
no_mark (b ∷ area) front is (inl empty) place = absurd (omega (arith, ap length is))
no_mark (b ∷ area) front is (inr other) place = reading_closed place b area (λ one. other (ap (λ (t : List ℕ). get_or t 0 0) is ∙ one))

pub has_mark : (area front : List ℕ) → front ≡ take 5 area → 0 < length front → get_or front 0 0 ≡ 1 → area ≡ 1 ∷ drop 1 area
has_mark [] front is some one = absurd (omega (arith, ap length is))
has_mark (b ∷ area) front is some one = ap (λ (x : ℕ). x ∷ area) (sym (ap (λ (t : List ℕ). get_or t 0 0) is) ∙ one)

pub count_bytes : (area front : List ℕ) → front ≡ take 5 area → 5 ≤ length area → get_or front 1 0 ∷ get_or front 2 0 ∷ get_or front 3 0 ∷ get_or front 4 0 ∷ [] ≡ take 4 (drop 1 area)
count_bytes [] front is long = absurd (omega arith)
count_bytes (a ∷ []) front is long = absurd (omega arith)
count_bytes (a ∷ b ∷ []) front is long = absurd (omega arith)
count_bytes (a ∷ b ∷ c ∷ []) front is long = absurd (omega arith)
count_bytes (a ∷ b ∷ c ∷ d ∷ []) front is long = absurd (omega arith)
count_bytes (a ∷ b ∷ c ∷ d ∷ e ∷ area) front is long = ap (λ (t : List ℕ). get_or t 1 0 ∷ get_or t 2 0 ∷ get_or t 3 0 ∷ get_or t 4 0 ∷ []) is

-- dropping bytes of a part of the file gives a later part
pub area_drop : (n m at : ℕ) (file : List ℕ) → n ≤ m → drop n (take m (drop at file)) ≡ take (m - n) (drop (at + n) file)
area_drop n m at file le =
    let same : m ≡ n + (m - n) = omega arith in
    ap (λ (k : ℕ). drop n (take k (drop at file))) same ∙ drop-take n (m - n) (drop at file) ∙ ap (λ (t : List ℕ). take (m - n) t) (drop-drop n at file)

five_of : (n m : ℕ) (xs : List ℕ) → n ≡ min m 5 → take n xs ≡ take 5 (take m xs)
five_of n m xs is = elim (cases_lt m 5) [
  | inl lt ↦ (let same : n ≡ m = omega arith in ap (λ (k : ℕ). take k xs) same ∙ sym (take_all 5 (take m xs) (omega (arith, length-take m xs))))
  | inr le ↦ (let same : n ≡ 5 = omega arith in ap (λ (k : ℕ). take k xs) same ∙ sym (take-take 5 m xs le))
]

module _ (file front : List ℕ) (at until n : ℕ) (few : n ≡ min (until - at) 5) (read : front ≡ take n (drop at file)) (le : at ≤ until) (whole : until ≤ length file) where
  abbrev pub area : List ℕ
  area = take (until - at) (drop at file)

  five : front ≡ take 5 area
  five = read ∙ five_of n (until - at) (drop at file) few

  long : length area ≡ until - at
  long = omega (arith, length-take (until - at) (drop at file), length-drop at file)

  pub none_there : (length front ≡ 0) ⊎ (get_or front 0 0 ≢ 1) → (place : ℕ) → reading 0 place area ≡ Whole []
  none_there none = no_mark area front five none

  module _ (some : 0 < length front) (one : get_or front 0 0 ≡ 1) where
    abbrev behind : List ℕ
    behind = drop 1 area

    there : area ≡ 1 ∷ behind
    there = has_mark area front five some one

    length-behind : length behind + 1 ≡ until - at
    length-behind = omega (arith, ap length there, long)

    pub too_short : until - at < 5 → HasNone area
    too_short lt = record { behind = behind; marked = there; none = record_short behind (omega (arith, length-behind)) }

    module _ (four : 5 ≤ until - at) where
      counted : count_in front ≡ from_be_bytes w32 (take 4 behind)
      counted = ap (λ (t : List ℕ). from_be_bytes w32 t) (count_bytes area front five (omega (arith, long)))

      pub too_long : until - at ≤ 4 + 14 * count_in front → HasNone area
      too_long over = record { behind = behind; marked = there; none = record_over (count_in front) behind counted (omega (arith, length-behind)) (omega (arith, length-behind)) }

      module _ (body : List ℕ) (m p : ℕ) (is : m ≡ 4 + 14 * count_in front) (fits : m < until - at) (next_to : p ≡ at + 1) (body_is : body ≡ take m (drop p file)) where
        same_record : record_of body ≡ record_of behind
        same_record =
            ap record_of (body_is ∙ ap (λ (k : ℕ). take m (drop k file)) next_to ∙ sym (take-take m (until - at - 1) (drop (at + 1) file) (omega arith))
            ∙ ap (λ (t : List ℕ). take m t) (sym (area_drop 1 (until - at) at file (omega arith))))
            ∙ record_front (count_in front) behind counted (omega (arith, length-behind)) m is (omega (arith, length-behind))

        length-body : length body ≡ m
        length-body = omega (arith, ap length body_is, length-take m (drop p file), length-drop p file)

        pub bad_record : record_of body ≡ None → HasNone area
        bad_record none = record { behind = behind; marked = there; none = sym same_record ∙ none }

        pub good_record : (r : Record) → record_of body ≡ Some r → size r ≤ length body → IsNext r area
        good_record r found short = record { behind = behind; marked = there; is = sym same_record ∙ found; whole = omega (arith, length-body, length-behind) }

        pub good_count : (r : Record) → record_of body ≡ Some r → length r ≡ count_in front
        good_count r found = record_count (count_in front) behind counted (omega (arith, length-behind)) r (sym same_record ∙ found)

-- ---- record by record

module _ (rs : List Record) (file : List ℕ) (place until : ℕ) (total : Reading) (le : place ≤ until) (so_far : push_all rs (reading 0 place (take (until - place) (drop place file))) ≡ total) where
  module _ (r : Record) (k : ℕ) (is : k ≡ 5 + 14 * length r) (next : IsNext r (take (until - place) (drop place file))) where
    pub step_within : place + k ≤ until
    step_within = omega (arith, is, next.whole, ap length next.marked, length-take (until - place) (drop place file))

    pub step : push_all (rs ++ r ∷ []) (reading 0 (place + k) (take (until - (place + k)) (drop (place + k) file))) ≡ total
    step =
        let n = size r in
        let same : k ≡ 1 + n = omega (arith, is) in
        ap (λ (t : List ℕ). push_all (rs ++ r ∷ []) (reading 0 (place + k) t)) (sym behind)
        ∙ ap (λ (j : ℕ). push_all (rs ++ r ∷ []) (reading 0 (place + j) (drop n next.behind))) same
        ∙ reads_on rs r n place next.behind total refl next.is next.whole (ap (λ (t : List ℕ). push_all rs (reading 0 place t)) (sym next.marked) ∙ so_far)
      where
        behind : drop (size r) next.behind ≡ take (until - (place + k)) (drop (place + k) file)
        behind =
            let same : k ≡ 1 + size r = omega (arith, is) in
            ap (λ (t : List ℕ). drop (size r) t) (sym (ap (λ (t : List ℕ). drop 1 t) next.marked))
            ∙ drop-drop (size r) 1 (take (until - place) (drop place file))
            ∙ ap (λ (j : ℕ). drop j (take (until - place) (drop place file))) (sym same)
            ∙ area_drop k (until - place) place file (omega (arith, step_within))
            ∙ ap (λ (j : ℕ). take j (drop (place + k) file)) (omega arith)

  pub step_damaged : HasNone (take (until - place) (drop place file)) → total ≡ Damaged place
  step_damaged none = damaged rs place none.behind total none.none (ap (λ (t : List ℕ). push_all rs (reading 0 place t)) (sym none.marked) ∙ so_far)
