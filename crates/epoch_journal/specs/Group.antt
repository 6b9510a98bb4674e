-- What contracts see of records that wait to be added together.
use Rattle.std.specs.Prelude.{ℕ, List, [], ◌∷◌, length}
use Rattle.record_journal.specs.Format.{Record, Reading, Whole, Damaged, reading, records as spelled}

pub record GroupState : Type 0 where
  -- the first one first
  pub records : List Record
  -- how many bytes more there is memory for
  pub spare : ℕ

-- how many bytes the records take, each with a mark
abbrev pub group_size : GroupState → ℕ
group_size group = length (spelled group.records)

abbrev pub whole_of : Reading → List Record
whole_of (Whole rs) = rs
whole_of (Damaged at) = []

-- the records whose bodies these bytes are
unfoldable pub records_in : List ℕ → List Record
records_in bytes = whole_of (reading 0 0 (1 ∷ bytes))
