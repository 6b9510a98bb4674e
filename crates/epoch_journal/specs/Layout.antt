-- Where everything is on a disk.
use Rattle.std.specs.Prelude.{ℕ, ◌+◌, ◌-◌, ◌/◌, min, cond, eqb, List, [], ◌∷◌, ◌++◌, length, drop, slice_index}
use Rattle.std.specs.Int.{w32, w64, to_be_bytes}
use Rattle.epoch_journal.specs.declared.current.Half.{Half}
use Rattle.epoch_journal.specs.declared.current.Half.TheVariants.{First, Second}

-- how many bytes the disk can hold, and the label that the store above gives
pub record Layout : Type 0 where
  pub capacity : ℕ
  pub label : List ℕ

abbrev pub layout : ℕ → List ℕ → Layout
layout capacity label = record { capacity = capacity; label = label }

abbrev pub other_half : Half → Half
other_half First = Second
other_half Second = First

-- the half that is current if this byte is at place 0: 1 selects the first, any other byte the second
abbrev pub selected_by : ℕ → Half
selected_by byte = cond (eqb byte 1) First Second

-- the current half; without a byte it is the second
abbrev pub half_of : List ℕ → Half
half_of file = selected_by (slice_index file 0)

-- "TEB1"
abbrev pub signature : List ℕ
signature = 84 ∷ 69 ∷ 66 ∷ 49 ∷ []

-- places 1 to 12: the signature, and the capacity
unfoldable pub front : ℕ → List ℕ
front capacity = signature ++ to_be_bytes w64 capacity

-- the place behind the front
abbrev pub front_end : ℕ
front_end = 13

-- how many bytes a half has: half of what is behind the front, and 4,294,967,295 at most
unfoldable pub half_size : ℕ → ℕ
half_size capacity = min ((capacity - front_end) / 2) 4294967295

-- where a half begins
abbrev pub half_at : ℕ → Half → ℕ
half_at capacity First = front_end
half_at capacity Second = front_end + half_size capacity

-- the bytes from the beginning of a half on
abbrev pub half : Layout → Half → List ℕ → List ℕ
half l h file = drop (half_at l.capacity h) file

-- the first bytes of each half: the length of the label, and the label
unfoldable pub header : List ℕ → List ℕ
header label = to_be_bytes w32 (length label) ++ label
