-- The bytes of a journal, and the records that any bytes stand for.
use Rattle.std.specs.Prelude.{ℕ, zero, suc, ◌+◌, ◌*◌, ◌<◌, ◌^◌, ◌&&◌, cond, eqb, ltb, min, List, [], ◌∷◌, ◌++◌, length, take, drop, slice_index, Option, Some, None, ℤ, IfSome, FitsSigned}
use Rattle.std.specs.List.{AllByRecursion}
use Rattle.std.specs.Int.{w32, w64, to_be_bytes, from_be_bytes, cast_unsigned, cast_signed}
use Rattle.crash_disk.specs.Sizes.{default_capacity}
use Rattle.teb_rules.specs.declared.names.Cell.{Cell}
use Rattle.record_journal.specs.declared.change.Change.{Change}

-- a record is the changes of one commit
abbrev pub Record : Type 0
Record = List Change

abbrev pub tag_of : Option ℤ → ℕ
tag_of None = 0
tag_of (Some v) = 1

abbrev pub number_of : Option ℤ → ℕ
number_of None = 0
number_of (Some v) = cast_unsigned w64 v

-- the fourteen bytes of a change: table, key, tag, value
abbrev pub entry : Change → List ℕ
entry c = c.cell.table.0 ∷ to_be_bytes w32 c.cell.key ++ tag_of c.value ∷ to_be_bytes w64 (number_of c.value)

abbrev pub entries : Record → List ℕ
entries [] = []
entries (c ∷ cs) = entry c ++ entries cs

-- a record behind its gate: how many changes, and each of them
abbrev pub body : Record → List ℕ
body r = to_be_bytes w32 (length r) ++ entries r

-- records, each behind an open gate
abbrev pub records : List Record → List ℕ
records [] = []
records (r ∷ rs) = 1 ∷ body r ++ records rs

-- what has a spelling
pub record ChangeFits (c : Change) : Type 0 where
  pub key : c.cell.key < 2 ^ 32
  pub value : IfSome c.value (λ v. FitsSigned w64 v)

pub record RecordFits (r : Record) : Type 0 where
  pub count : length r < 2 ^ 32
  pub each : AllByRecursion ChangeFits r

-- fourteen bytes as a change: the tag is 1 for a value and 0 for no row, whose value is 0
unfoldable pub value_of_tag : ℕ → ℕ → Option (Option ℤ)
value_of_tag tag n = cond (eqb tag 1) (Some (Some (cast_signed w64 n))) (cond (eqb tag 0 && eqb n 0) (Some None) None)

abbrev pub with_cell : Cell → Option (Option ℤ) → Option Change
with_cell x None = None
with_cell x (Some v) = Some (record { cell = x; value = v })

abbrev pub cell_at : List ℕ → Cell
cell_at bytes = record { table = record { 0 = slice_index bytes 0 }; key = from_be_bytes w32 (take 4 (drop 1 bytes)) }

abbrev pub change_of : List ℕ → Option Change
change_of bytes = with_cell (cell_at bytes) (value_of_tag (slice_index bytes 5) (from_be_bytes w64 (take 8 (drop 6 bytes))))

abbrev pub follow : Option Change → Option Record → Option Record
follow None r = None
follow (Some c) None = None
follow (Some c) (Some r) = Some (c ∷ r)

-- n changes at the front of the bytes; None where they run past the end, or one of them is not a change
unfoldable pub changes_of : ℕ → List ℕ → Option Record
changes_of zero bytes = Some []
changes_of (suc n) bytes = cond (ltb (length bytes) 14) None (follow (change_of (take 14 bytes)) (changes_of n (drop 14 bytes)))

-- the record behind an open gate
unfoldable pub record_of : List ℕ → Option Record
record_of bytes = cond (ltb (length bytes) 4) None (changes_of (from_be_bytes w32 (take 4 bytes)) (drop 4 bytes))

-- what bytes stand for: records, or damage at the gate that stands there
pub data Reading : Type 0 where
  Whole : List Record → Reading
  Damaged : ℕ → Reading

abbrev pub push : Record → Reading → Reading
push r (Whole rs) = Whole (r ∷ rs)
push r (Damaged at) = Damaged at

-- how many bytes follow the gate of a record
abbrev pub size : Record → ℕ
size r = 4 + 14 * length r

-- The reading of the bytes from place `at` on, of which the first `skip` belong to a record that is already read. It ends at the
-- first gate that is not 1, or past the end.
abbrev pub after_gate : ℕ → Option Record → (ℕ → Reading) → Reading
after_gate at None rest = Damaged at
after_gate at (Some r) rest = push r (rest (size r))

unfoldable pub reading : ℕ → ℕ → List ℕ → Reading
reading skip at [] = Whole []
reading (suc skip) at (b ∷ bytes) = reading skip (suc at) bytes
reading zero at (gate ∷ bytes) = cond (eqb gate 1) (after_gate at (record_of bytes) (λ n. reading n (suc at) bytes)) (Whole [])

-- how many bytes of a disk the journal of a store may use: the default capacity at most
abbrev pub room_of : ℕ → ℕ
room_of capacity = min capacity default_capacity

-- what a disk's bytes stand for: those past the first `room` are not looked at
unfoldable pub recovered : ℕ → List ℕ → Reading
recovered room bytes = reading 0 0 (take room bytes)
