-- A disk in two halves, of which one is current, and the records that it has.
use Rattle.std.specs.Prelude.{◌≡◌, ◌≢◌, ◌⊎◌, ℕ, ◌+◌, ◌<◌, ◌≤◌, List, [], ◌∷◌, ◌++◌, length, take, drop}
use Rattle.std.specs.List.{AllByRecursion}
use Rattle.record_journal.specs.Format.{Record, RecordFits, body, records}
use Rattle.epoch_journal.specs.declared.current.Current.{Current}
use Rattle.epoch_journal.specs.declared.current.Current.TheVariants as current
use Rattle.epoch_journal.specs.declared.current.Half.{Half}
use Rattle.epoch_journal.specs.declared.current.Half.TheVariants.{Second}
use Rattle.epoch_journal.specs.Layout.{Layout, other_half, half_of, front, front_end, half_size, half_at, half, header}

-- a half: its header, whole records, and then an end mark, a byte that is not 1; after it anything
pub record IsHalf (l : Layout) (rs : List Record) (bytes : List ℕ) : Type 0 where
  pub fit : AllByRecursion RecordFits rs
  pub within : length (header l.label) + length (records rs) < half_size l.capacity
  pub mark : ℕ
  pub ends : mark ≢ 1
  pub rest : List ℕ
  pub is : bytes ≡ header l.label ++ (records rs ++ mark ∷ rest)

-- the disk has its front
pub record IsFronted (capacity : ℕ) (file : List ℕ) : Type 0 where
  pub long : front_end ≤ length file
  pub is : take 12 (drop 1 file) ≡ front capacity

-- the second half is current, and the disk ends before it
pub record IsEmpty (l : Layout) (file : List ℕ) : Type 0 where
  pub fronted : IsFronted l.capacity file
  pub second : half_of file ≡ Second
  pub short : length file ≤ half_at l.capacity Second

-- the current half has these records
pub record IsCurrent (l : Layout) (rs : List Record) (file : List ℕ) : Type 0 where
  pub fronted : IsFronted l.capacity file
  pub has : IsHalf l rs (half l (half_of file) file)

-- so, or there is no record: the disk ends before the halves, or before the second one, which is current
abbrev pub HasRecords : Layout → List Record → List ℕ → Type 0
HasRecords l rs file = IsCurrent l rs file ⊎ ((rs ≡ []) × (IsEmpty l file ⊎ (length file ≤ front_end)))

-- it has these records, or those
abbrev pub HasOneOf : Layout → List Record → List Record → List ℕ → Type 0
HasOneOf l rs qs file = HasRecords l rs file ⊎ HasRecords l qs file

-- this half is current and has these records, and no write into the other half changes that
pub record IsSettled (l : Layout) (h : Half) (rs : List Record) (file : List ℕ) : Type 0 where
  pub fronted : IsFronted l.capacity file
  pub selects : half_of file ≡ h
  pub has : IsHalf l rs (half l h file) ⊎ ((h ≡ Second) × (rs ≡ []) × (length file ≤ half_at l.capacity Second))

-- so, or the other half is current and has this record alone
abbrev pub IsEither : Layout → Half → List Record → Record → List ℕ → Type 0
IsEither l h rs r file = IsSettled l h rs file ⊎ IsSettled l (other_half h) (r ∷ []) file

-- this half is current, and its end mark, at `end`, is 0
pub record IsResting (l : Layout) (h : Half) (rs : List Record) (end : ℕ) (file : List ℕ) : Type 0 where
  pub fronted : IsFronted l.capacity file
  pub selects : half_of file ≡ h
  pub fit : AllByRecursion RecordFits rs
  pub size : end ≡ length (header l.label) + length (records rs)
  pub rest : List ℕ
  pub is : half l h file ≡ header l.label ++ (records rs ++ 0 ∷ rest)

-- this half is current, and it has these records, or these and all of the others
pub record IsOneOf (l : Layout) (h : Half) (rs more : List Record) (file : List ℕ) : Type 0 where
  pub fronted : IsFronted l.capacity file
  pub selects : half_of file ≡ h
  pub has : IsHalf l rs (half l h file) ⊎ IsHalf l (rs ++ more) (half l h file)

-- the bytes of a half that has this one record
pub record IsPiece (l : Layout) (r : Record) (bytes : List ℕ) : Type 0 where
  pub fits : RecordFits r
  pub is : bytes ≡ header l.label ++ (1 ∷ (body r ++ 0 ∷ []))

-- what was read of a disk: it ends before the halves, or this half is current
abbrev pub IsAt : Layout → List Record → Current → List ℕ → Type 0
IsAt l rs current.Blank file = (rs ≡ []) × (length file ≤ front_end)
IsAt l rs (current.Half h) file = IsSettled l h rs file
