-- What is read from a disk that has records.
use Rattle.std.proofs.Common.{◌≡◌, inl, inr, ⊎_elim, ◌⊎◌, ℕ, suc, ◌+◌, ◌-◌, ◌<◌, ◌≤◌, List, [], ◌∷◌, ◌++◌, length, take, drop, refl, sym, ◌∙◌, ap, subst, arith, length-drop}
use Rattle.std.specs.Int.{w64, to_be_bytes}
use Rattle.std.proofs.lemmas.List.{append-nil, take_at, drop_at, take-take, drop-take, drop-drop, length-take}
use Rattle.record_journal.specs.Format.{Record, Reading, Whole, Damaged, reading, records}
use Rattle.record_journal.proofs.Found.{records_in}
use Rattle.record_journal.proofs.Spelled.{push_all, pushed, reading_records, reading_closed, take_past}
use Rattle.epoch_journal.specs.declared.current.Current.{Current}
use Rattle.epoch_journal.specs.declared.current.Current.TheVariants as current
use Rattle.epoch_journal.specs.declared.current.Half.{Half}
use Rattle.epoch_journal.specs.declared.current.Half.TheVariants.{Second}
use Rattle.epoch_journal.specs.Layout.{Layout, signature, front, half_size, half_at, half, half_of, header}
use Rattle.epoch_journal.specs.Halves.{HasRecords, IsAt, IsCurrent, IsEmpty, IsFronted, IsHalf}
use Rattle.epoch_journal.specs.Read.{HasHeader, HasOtherCapacity, HasOtherLabel, IsCurrently, IsDamaged, IsReadAs, half_reading, records_at}
use Rattle.epoch_journal.proofs.Sizes.{length-header}
use Rattle.epoch_journal.proofs.Fronts.{behind_front, far_half}

-- ---- the front

signed : (capacity : ℕ) → take 4 (front capacity) ≡ signature
unfolding front
signed capacity = refl

numbered : (capacity : ℕ) → drop 4 (front capacity) ≡ to_be_bytes w64 capacity
unfolding front
numbered capacity = refl

pub has_signature : (capacity : ℕ) (file : List ℕ) → IsFronted capacity file → take 4 (drop 1 file) ≡ signature
has_signature capacity file fronted = sym (take-take 4 12 (drop 1 file) (omega arith)) ∙ ap (take 4) fronted.is ∙ signed capacity

pub has_capacity : (capacity : ℕ) (file : List ℕ) → IsFronted capacity file → take 8 (drop 5 file) ≡ to_be_bytes w64 capacity
has_capacity capacity file fronted = ap (take 8) (sym (drop-drop 4 1 file)) ∙ sym (drop-take 4 8 (drop 1 file)) ∙ ap (drop 4) fronted.is ∙ numbered capacity

-- ---- the current half

module _ (l : Layout) (rs : List Record) (file : List ℕ) (now : IsCurrent l rs file) where
  abbrev h : IsHalf l rs (half l (half_of file) file)
  h = now.has

  labelled : HasHeader l file
  labelled = ap (λ (t : List ℕ). take (length (header l.label)) t) h.is ∙ take_at (header l.label) (records rs ++ h.mark ∷ h.rest) (length (header l.label)) refl

  behind_header : drop (records_at l file) file ≡ records rs ++ h.mark ∷ h.rest
  behind_header =
      ap (λ (n : ℕ). drop n file) (omega arith)
      ∙ sym (drop-drop (length (header l.label)) (half_at l.capacity (half_of file)) file)
      ∙ ap (λ (t : List ℕ). drop (length (header l.label)) t) h.is
      ∙ drop_at (header l.label) (records rs ++ h.mark ∷ h.rest) (length (header l.label)) refl

  reads : half_reading l file ≡ Whole rs
  reads =
      let at = records_at l file in
      let n = half_size l.capacity - length (header l.label) in
      let k = n - length (records rs) - 1 in
      ap (λ (t : List ℕ). reading 0 at (take n t)) behind_header
      ∙ ap (λ (t : List ℕ). reading 0 at t) (take_past (records rs) (h.mark ∷ h.rest) n (suc k) (omega (arith, h.within)))
      ∙ reading_records rs at (h.mark ∷ take k h.rest) h.fit
      ∙ ap (push_all rs) (reading_closed (at + length (records rs)) h.mark (take k h.rest) h.ends)
      ∙ pushed rs []
      ∙ ap Whole (append-nil rs)

  long : half_at l.capacity (half_of file) < length file
  long = omega (arith, far_half l (half_of file) rs file h)

  not_empty : IsEmpty l file → ⊥
  not_empty empty =
      let same : half_at l.capacity (half_of file) ≡ half_at l.capacity Second = ap (λ (b : Half). half_at l.capacity b) empty.second in
      omega (arith, long, empty.short, same)

  past_front : 13 < length file
  past_front = omega (arith, long, behind_front l.capacity (half_of file))

-- a disk that ends before its current half has no header there
no_header : (l : Layout) (file : List ℕ) → length file ≤ half_at l.capacity (half_of file) → HasHeader l file → ⊥
no_header l file short has =
    omega (arith, ap length has, length-take (length (header l.label)) (half l (half_of file) file), length-drop (half_at l.capacity (half_of file)) file, length-header l.label, short)

short_of : (l : Layout) (file : List ℕ) → IsEmpty l file → length file ≤ half_at l.capacity (half_of file)
short_of l file empty =
    let same : half_at l.capacity (half_of file) ≡ half_at l.capacity Second = ap (λ (b : Half). half_at l.capacity b) empty.second in
    omega (arith, empty.short, same)

shorter : (l : Layout) (file : List ℕ) → length file ≤ 13 → length file ≤ half_at l.capacity (half_of file)
shorter l file short = omega (arith, short, behind_front l.capacity (half_of file))

same_records : (rs qs : List Record) → Whole qs ≡ Whole rs → qs ≡ rs
same_records rs qs same = ap (λ (x : Reading). records_in x qs) same

pub read_same : (l : Layout) (rs qs : List Record) (file : List ℕ) → HasRecords l rs file → IsReadAs l qs file → qs ≡ rs
read_same l rs qs file (inl now) (inl read) = same_records rs qs (sym read.1 ∙ reads l rs file now)
read_same l rs qs file (inl now) (inr none) = absurd (⊎_elim (not_empty l rs file now) (λ short. omega (arith, short, past_front l rs file now)) none.1)
read_same l rs qs file (inr none) (inl read) = absurd (⊎_elim (λ empty. no_header l file (short_of l file empty) read.0.header) (λ short. no_header l file (shorter l file short) read.0.header) none.1)
read_same l rs qs file (inr none) (inr too) = too.0 ∙ sym none.0

apart : (rs : List Record) (at : ℕ) → Whole rs ≡ Damaged at → ⊥
apart rs at same = cc same

signed_of : (l : Layout) (rs : List Record) (file : List ℕ) → HasRecords l rs file → 13 < length file → IsFronted l.capacity file
signed_of l rs file (inl now) long = now.fronted
signed_of l rs file (inr (none, inl empty)) long = empty.fronted
signed_of l rs file (inr (none, inr short)) long = absurd (omega (arith, short, long))

pub not_damaged : (l : Layout) (rs : List Record) (at : ℕ) (file : List ℕ) → HasRecords l rs file → IsDamaged l at file → ⊥
not_damaged l rs at file has (far, inl front) = front.1 (has_signature l.capacity file (signed_of l rs file has far))
not_damaged l rs at file (inl now) (far, inr read) = apart rs at (sym (reads l rs file now) ∙ read.1)
not_damaged l rs at file (inr none) (far, inr read) = ⊎_elim (λ empty. no_header l file (short_of l file empty) read.0.header) (λ short. no_header l file (shorter l file short) read.0.header) none.1

pub same_capacity : (l : Layout) (rs : List Record) (file : List ℕ) → HasRecords l rs file → HasOtherCapacity l file → ⊥
same_capacity l rs file has other = other.other (has_capacity l.capacity file (signed_of l rs file has other.long))

pub same_label : (l : Layout) (rs : List Record) (file : List ℕ) → HasRecords l rs file → HasOtherLabel l file → ⊥
same_label l rs file (inl now) other = other.other (labelled l rs file now)
same_label l rs file (inr (none, inl empty)) other = other.some empty
same_label l rs file (inr (none, inr short)) other = omega (arith, short, other.long)

-- ---- which half is current

pub found_at : (l : Layout) (rs : List Record) (x : Current) (file : List ℕ) → IsCurrently l.capacity x file → HasRecords l rs file → IsAt l rs x file
found_at l rs current.Blank file short (inl now) = absurd (omega (arith, short, past_front l rs file now))
found_at l rs current.Blank file short (inr none) = (none.0, short)
found_at l rs (current.Half this) file is has = record {
  fronted = is.1;
  selects = is.2;
  has = of has;
}
  where
    of : HasRecords l rs file → IsHalf l rs (half l this file) ⊎ ((this ≡ Second) × (rs ≡ []) × (length file ≤ half_at l.capacity Second))
    of (inl now) = inl (subst (λ (b : Half). IsHalf l rs (half l b file)) is.2 now.has)
    of (inr (none, inl empty)) = inr (sym is.2 ∙ empty.second, none, empty.short)
    of (inr (none, inr short)) = absurd (omega (arith, short, is.0))
