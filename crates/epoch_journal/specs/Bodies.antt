-- The bytes of records that are added together.
use Rattle.std.specs.Prelude.{◌≡◌, ℕ, ◌-◌, List, [], ◌∷◌, ◌++◌, length, drop, slice_set}
use Rattle.std.specs.List.{AllByRecursion}
use Rattle.record_journal.specs.Format.{Record, RecordFits, records}

-- The bytes behind the first of the commit marks of these records: their bodies, the commit marks between them, and an end mark. There are
-- none if there is no record.
pub record AreBodies (rs : List Record) (bytes : List ℕ) : Type 0 where
  pub fit : AllByRecursion RecordFits rs
  pub is : bytes ≡ drop 1 (records rs ++ 0 ∷ [])

-- bodies behind which a record is to follow: their end mark is a commit mark now
abbrev pub opened : List ℕ → List ℕ
opened bytes = slice_set bytes (length bytes - 1) 1
