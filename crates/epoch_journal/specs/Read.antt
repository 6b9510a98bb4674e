-- What is read of any bytes.
use Rattle.std.specs.Prelude.{◌≡◌, ◌≢◌, ◌⊎◌, ℕ, ◌+◌, ◌-◌, ◌<◌, ◌≤◌, List, [], length, take, drop}
use Rattle.std.specs.Int.{w64, to_be_bytes}
use Rattle.record_journal.specs.Format.{Record, Reading, Whole, Damaged, reading}
use Rattle.epoch_journal.specs.Layout.{Layout, signature, front_end, half_size, half_at, half, header, half_of}
use Rattle.epoch_journal.specs.declared.current.Current.{Current}
use Rattle.epoch_journal.specs.declared.current.Current.TheVariants as current
use Rattle.epoch_journal.specs.Halves.{IsFronted, IsEmpty}

-- where the records of the current half begin
abbrev pub records_at : Layout → List ℕ → ℕ
records_at l file = half_at l.capacity (half_of file) + length (header l.label)

-- what the current half stands for behind its header: records, or damage at a place of the disk
abbrev pub half_reading : Layout → List ℕ → Reading
half_reading l file = reading 0 (records_at l file) (take (half_size l.capacity - length (header l.label)) (drop (records_at l file) file))

-- the current half begins with the header of this label
abbrev pub HasHeader : Layout → List ℕ → Type 0
HasHeader l file = take (length (header l.label)) (half l (half_of file) file) ≡ header l.label

-- what can be read of the current half
pub record IsLabelled (l : Layout) (file : List ℕ) : Type 0 where
  pub fronted : IsFronted l.capacity file
  pub header : HasHeader l file

-- these records are read
abbrev pub IsReadAs : Layout → List Record → List ℕ → Type 0
IsReadAs l rs file = (IsLabelled l file × (half_reading l file ≡ Whole rs)) ⊎ ((rs ≡ []) × (IsEmpty l file ⊎ (length file ≤ front_end)))

-- no journal: there is another signature, at place 1, or a commit mark without a record
abbrev pub IsDamaged : Layout → ℕ → List ℕ → Type 0
IsDamaged l at file =
    (front_end < length file) × (((at ≡ 1) × (take 4 (drop 1 file) ≢ signature)) ⊎ (IsLabelled l file × (half_reading l file ≡ Damaged at)))

-- the journal of a disk with another capacity
pub record HasOtherCapacity (l : Layout) (file : List ℕ) : Type 0 where
  pub long : front_end < length file
  pub signed : take 4 (drop 1 file) ≡ signature
  pub other : take 8 (drop 5 file) ≢ to_be_bytes w64 l.capacity

-- the current half does not begin with the header of this label
pub record HasOtherLabel (l : Layout) (file : List ℕ) : Type 0 where
  pub long : front_end < length file
  pub fronted : IsFronted l.capacity file
  pub some : IsEmpty l file → ⊥
  pub other : HasHeader l file → ⊥

-- the disk ends before its halves, or this half is current
abbrev pub IsCurrently : ℕ → Current → List ℕ → Type 0
IsCurrently capacity current.Blank file = length file ≤ front_end
IsCurrently capacity (current.Half h) file = (front_end < length file) × IsFronted capacity file × (half_of file ≡ h)

-- where the half begins that was read
abbrev pub half_found_at : ℕ → Current → ℕ
half_found_at capacity current.Blank = 0
half_found_at capacity (current.Half h) = half_at capacity h
