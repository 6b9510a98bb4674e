-- What the bytes of a disk tell, in the order in which they are read.
use Rattle.std.proofs.Common.{◌≡◌, inl, inr, ◌⊎◌, ℕ, ◌+◌, ◌-◌, ◌<◌, ◌≤◌, min, List, [], ◌++◌, length, take, drop, refl, sym, ◌∙◌, ap, subst, arith, length-drop, take-append-drop}
use Rattle.std.specs.Int.{w64, to_be_bytes}
use Rattle.std.proofs.lemmas.Bool.{cases_lt}
use Rattle.std.proofs.lemmas.List.{take-take, take_all, get_or-take, drop-take, drop-drop, length-take}
use Rattle.record_journal.specs.Format.{Record, Whole, Damaged, reading}
use Rattle.epoch_journal.specs.declared.current.Half.{Half}
use Rattle.epoch_journal.specs.declared.current.Half.TheVariants.{First, Second}
use Rattle.epoch_journal.specs.Layout.{Layout, signature, front, half_size, half_at, half, half_of, header, selected_by}
use Rattle.epoch_journal.specs.Halves.{IsFronted}
use Rattle.epoch_journal.specs.Read.{HasHeader, HasOtherCapacity, HasOtherLabel, IsDamaged, IsLabelled, IsReadAs, half_reading, records_at}

joined : (capacity : ℕ) → signature ++ to_be_bytes w64 capacity ≡ front capacity
unfolding front
joined capacity = refl

-- the front, read in two parts
pub front_in_parts : (capacity : ℕ) (bytes : List ℕ) → take 4 bytes ≡ signature → drop 4 bytes ≡ to_be_bytes w64 capacity → bytes ≡ front capacity
front_in_parts capacity bytes signed numbered =
    sym (take-append-drop 4 bytes) ∙ ap (λ (t : List ℕ). t ++ drop 4 bytes) signed ∙ ap (λ (t : List ℕ). signature ++ t) numbered ∙ joined capacity

module _ (file bytes : List ℕ) (read : bytes ≡ take 13 (drop 0 file)) (long : 13 < length file) where
  pub thirteen : length bytes ≡ 13
  thirteen = omega (arith, ap length read, length-take 13 (drop 0 file))

  twelve : drop 1 bytes ≡ take 12 (drop 1 file)
  twelve = ap (λ (t : List ℕ). drop 1 t) read ∙ drop-take 1 12 file

  marks_are : take 4 (drop 1 bytes) ≡ take 4 (drop 1 file)
  marks_are = ap (λ (t : List ℕ). take 4 t) twelve ∙ take-take 4 12 (drop 1 file) (omega arith)

  number_is : drop 4 (drop 1 bytes) ≡ take 8 (drop 5 file)
  number_is = ap (λ (t : List ℕ). drop 4 t) twelve ∙ drop-take 4 8 (drop 1 file) ∙ ap (λ (t : List ℕ). take 8 t) (drop-drop 4 1 file)

  pub unsigned : (l : Layout) → (take 4 (drop 1 bytes) ≡ signature → ⊥) → IsDamaged l 1 file
  unsigned l other = (long, inl (refl, λ same. other (marks_are ∙ same)))

  pub other_capacity : (l : Layout) → take 4 (drop 1 bytes) ≡ signature → (drop 4 (drop 1 bytes) ≡ to_be_bytes w64 l.capacity → ⊥) → HasOtherCapacity l file
  other_capacity l same other = record { long = long; signed = sym marks_are ∙ same; other = λ is. other (number_is ∙ is) }

  pub fronted : (capacity : ℕ) → drop 1 bytes ≡ front capacity → IsFronted capacity file
  fronted capacity is = record { long = omega (arith, long); is = sym twelve ∙ is }

  pub same_of : half_of bytes ≡ half_of file
  same_of = ap half_of read ∙ ap selected_by (get_or-take 13 (drop 0 file) 0 0 (omega arith))

-- ---- the current half

pub inside : (capacity : ℕ) (h : Half) (base len : ℕ) → base ≡ half_at capacity h → 13 < len → (h ≡ First) ⊎ (base < len) → base < len
inside capacity h base len is long (inl is_first) =
    let same : half_at capacity h ≡ 13 = ap (λ (b : Half). half_at capacity b) is_first in
    omega (arith, is, same, long)
inside capacity h base len is long (inr lt) = lt

module _ (l : Layout) (file : List ℕ) (h : Half) (long : 13 < length file) (is_fronted : IsFronted l.capacity file) (selects : half_of file ≡ h) where
  pub empty : h ≡ Second → length file ≤ half_at l.capacity h → IsReadAs l [] file
  empty second short = inr (
    refl,
    inl (record {
      fronted = is_fronted;
      second = selects ∙ second;
      short = subst (λ (b : Half). length file ≤ half_at l.capacity b) second short;
    }),
  )

  module _ (base most size n : ℕ) (found : List ℕ) (base_is : base ≡ half_at l.capacity h) (inside : base < length file) (most_is : most ≡ min (length file - base) (half_size l.capacity))
      (size_is : size ≡ length (header l.label)) (fits : size ≤ half_size l.capacity)
      (n_is : n ≡ min most size) (read : found ≡ take n (drop base file)) where
    here : half l (half_of file) file ≡ drop base file
    here = ap (λ (b : Half). drop (half_at l.capacity b) file) selects ∙ ap (λ (k : ℕ). drop k file) (sym base_is)

    whole_header : HasHeader l file → found ≡ header l.label
    whole_header has =
        let size_of = ap length has in
        let same : n ≡ size = omega (arith, n_is, most_is, size_is, fits, size_of, length-take (length (header l.label)) (half l (half_of file) file), ap length here, length-drop base file) in
        read ∙ ap (λ (k : ℕ). take k (drop base file)) (same ∙ size_is) ∙ ap (λ (t : List ℕ). take (length (header l.label)) t) (sym here) ∙ has

    pub other_label : (found ≡ header l.label → ⊥) → HasOtherLabel l file
    other_label other = record {
      long = long;
      fronted = is_fronted;
      some = λ empty.
          let same : half_at l.capacity h ≡ half_at l.capacity Second = ap (λ (b : Half). half_at l.capacity b) (sym selects ∙ empty.second) in
          omega (arith, inside, base_is, empty.short, same);
      other = λ has. other (whole_header has);
    }

    module _ (same : found ≡ header l.label) where
      full : n ≡ size
      full = omega (arith, ap length same, ap length read, length-take n (drop base file), n_is, size_is)

      labelled : IsLabelled l file
      labelled = record {
        fronted = is_fronted;
        header = ap (λ (t : List ℕ). take (length (header l.label)) t) here ∙ ap (λ (k : ℕ). take k (drop base file)) (sym (full ∙ size_is)) ∙ sym read ∙ same;
      }

      take_enough : (a b : ℕ) (xs : List ℕ) → a ≡ min b (length xs) → take a xs ≡ take b xs
      take_enough a b xs is = elim (cases_lt b (length xs)) [
        | inl lt ↦ (let so : a ≡ b = omega arith in ap (λ (k : ℕ). take k xs) so)
        | inr le ↦ (let so : a ≡ length xs = omega arith in ap (λ (k : ℕ). take k xs) so ∙ take_all (length xs) xs (omega arith) ∙ sym (take_all b xs le))
      ]

      pub same_reading : (at until : ℕ) → at ≡ base + size → until ≡ base + most → reading 0 at (take (until - at) (drop at file)) ≡ half_reading l file
      same_reading at until at_is until_is =
          let there : at ≡ records_at l file = at_is ∙ ap (λ (k : ℕ). k + size) (base_is ∙ sym (ap (λ (b : Half). half_at l.capacity b) selects))
          ∙ ap (λ (k : ℕ). half_at l.capacity (half_of file) + k) size_is in
          ap (λ (t : List ℕ). reading 0 at t)
          (take_enough (until - at) (half_size l.capacity - length (header l.label)) (drop at file) (omega (arith, at_is, until_is, most_is, size_is, full, n_is, length-drop at file)))
          ∙ ap (λ (k : ℕ). reading 0 k (take (half_size l.capacity - length (header l.label)) (drop k file))) there

      pub read_as : (rs : List Record) (at until : ℕ) → at ≡ base + size → until ≡ base + most → reading 0 at (take (until - at) (drop at file)) ≡ Whole rs → IsReadAs l rs file
      read_as rs at until at_is until_is whole = inl (labelled, sym (same_reading at until at_is until_is) ∙ whole)

      pub read_damaged : (place at until : ℕ) → at ≡ base + size → until ≡ base + most → reading 0 at (take (until - at) (drop at file)) ≡ Damaged place → IsDamaged l place file
      read_damaged place at until at_is until_is bad = (long, inr (labelled, sym (same_reading at until at_is until_is) ∙ bad))
