-- Which records a journal has, on the disk and after a crash.
use Rattle.std.specs.Prelude.{◌≡◌, ◌⊎◌, ℕ, ◌<◌, ◌≤◌, List, [], ◌∷◌, ◌++◌, length, take}
use Rattle.std.specs.List.{AllByRecursion}
use Rattle.teb_rules.specs.Replay.{Values, put_in}
use Rattle.record_journal.specs.Format.{Record, RecordFits, body, records, recovered, Whole}

-- the file is these records and a closed gate, at `end` and so within the room, and then anything
pub record IsAtRest (room : ℕ) (rs : List Record) (end : ℕ) (bytes : List ℕ) : Type 0 where
  pub fit : AllByRecursion RecordFits rs
  pub size : end ≡ length (records rs)
  pub within : end < room
  pub rest : List ℕ
  pub is : bytes ≡ records rs ++ 0 ∷ rest

-- the bytes behind a gate that add this record: its body, and the next gate, closed
pub record IsBody (r : Record) (bytes : List ℕ) : Type 0 where
  pub fits : RecordFits r
  pub is : bytes ≡ body r ++ 0 ∷ []

-- the file stands for these records, or for these and one more
abbrev pub IsBeforeOrAfter : ℕ → List Record → Record → List ℕ → Type 0
IsBeforeOrAfter room rs r file = (recovered room file ≡ Whole rs) ⊎ (recovered room file ≡ Whole (rs ++ r ∷ []))

-- the file stands for the first k of the records, for a k that is at least `least`
pub record StandsFor (room least : ℕ) (rs : List Record) (file : List ℕ) : Type 0 where
  pub k : ℕ
  pub no_fewer : least ≤ k
  pub no_more : k ≤ length rs
  pub stands : recovered room file ≡ Whole (take k rs)

-- a table of values after the changes of a record, the first change first
abbrev pub after_changes : Record → Values → Values
after_changes [] T = T
after_changes (c ∷ cs) T = after_changes cs (put_in c.cell c.value T)

-- and after some records, the first record first
abbrev pub after_records : List Record → Values → Values
after_records [] T = T
after_records (r ∷ rs) T = after_records rs (after_changes r T)
