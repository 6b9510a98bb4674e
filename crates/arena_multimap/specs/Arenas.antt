-- Lists of values in one vector, each in a segment.
use Rattle.std.specs.Prelude.{◌≢◌, ◌⊎◌, ℕ, ◌+◌, ◌-◌, ◌*◌, ◌^◌, ◌<◌, ◌≤◌, List, length, take, drop, get_or, vec_len, vec_capacity}
use Rattle.std.specs.List.{sum_by}
use Rattle.arena_multimap.specs.declared.arena.Arena.{Arena}
use Rattle.arena_multimap.specs.declared.arena.Segment.{Segment}

-- a segment with no place
abbrev pub none : Segment
none = record { start = 0; len = 0; room = 0 }

-- the segment of list i, if there is one
abbrev pub segment_at : List Segment → ℕ → Segment
segment_at ss i = get_or ss i none

-- the values of a segment
abbrev pub values_at : {V : Type 0} → List V → Segment → List V
values_at vs s = take s.len (drop s.start vs)

-- the values of list i; empty if there is no such list
abbrev pub list_at : {V : Type 0} → Arena V → ℕ → List V
list_at a i = values_at a.values.items (segment_at a.segments.items i)

-- how many lists there are
abbrev pub lists : {V : Type 0} → Arena V → ℕ
lists a = length a.segments.items

-- a segment is within n places
pub record IsWithin (s : Segment) (n : ℕ) : Type 0 where
  pub len : s.len ≤ s.room
  pub end : s.start + s.room ≤ n

-- one of two segments ends before the other begins
abbrev pub AreApart : Segment → Segment → Type 0
AreApart s t = (s.start + s.room ≤ t.start) ⊎ (t.start + t.room ≤ s.start)

-- what a segment takes with its next move, less what the values bring that are appended until then
abbrev pub owed : Segment → ℕ
owed s = 4 * s.len - 2 * s.room

-- the segments are within n places, apart, and the debt is at least what they owe
pub record Lies (ss : List Segment) (n debt : ℕ) : Type 0 where
  pub within : (i : ℕ) → IsWithin (segment_at ss i) n
  pub apart : (i j : ℕ) → i ≢ j → AreApart (segment_at ss i) (segment_at ss j)
  pub owes : sum_by owed ss ≤ debt

abbrev pub IsArena : {V : Type 0} → Arena V → Type 0
IsArena a = Lies a.segments.items (length a.values.items) a.debt

-- there is room for m more lists, and n more values
pub record HasRoomFor {V : Type 0} (a : Arena V) (m n : ℕ) : Type 0 where
  pub segments : vec_len a.segments + m ≤ vec_capacity a.segments
  pub values : vec_len a.values + a.debt + 4 * n ≤ vec_capacity a.values
  pub short : vec_len a.values + a.debt + 4 * n < 2 ^ 32

-- there is room for n more values, each in any list or a new one
abbrev pub HasRoom : {V : Type 0} → Arena V → ℕ → Type 0
HasRoom a n = HasRoomFor a n n
