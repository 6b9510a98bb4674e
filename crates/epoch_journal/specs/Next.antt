-- The record at the front of bytes.
use Rattle.std.specs.Prelude.{◌≡◌, ℕ, ◌≤◌, List, [], ◌∷◌, length, slice_index, Some, None}
use Rattle.std.specs.Int.{w32, from_be_bytes}
use Rattle.record_journal.specs.Format.{Record, record_of, size}

-- a commit mark, and this record behind it
pub record IsNext (r : Record) (bytes : List ℕ) : Type 0 where
  pub behind : List ℕ
  pub marked : bytes ≡ 1 ∷ behind
  pub is : record_of behind ≡ Some r
  pub whole : size r ≤ length behind

-- a commit mark, and no record behind it
pub record HasNone (bytes : List ℕ) : Type 0 where
  pub behind : List ℕ
  pub marked : bytes ≡ 1 ∷ behind
  pub none : record_of behind ≡ None

-- the number of changes that follows the mark
abbrev pub count_in : List ℕ → ℕ
count_in front = from_be_bytes w32 (slice_index front 1 ∷ slice_index front 2 ∷ slice_index front 3 ∷ slice_index front 4 ∷ [])
