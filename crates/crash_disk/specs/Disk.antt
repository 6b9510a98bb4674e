-- What the calls of a disk do to its bytes, and what a crash may leave of them.
use Rattle.std.specs.Prelude.{◌≡◌, ◌⊎◌, ℕ, ◌<◌, ◌≤◌, ◌+◌, max, List, length, take, drop, slice_index}

-- a place is not one of the n from `at` on
abbrev pub IsOutside : ℕ → ℕ → ℕ → Type 0
IsOutside at n i = (i < at) ⊎ (at + n ≤ i)

-- after a write of n bytes, of which nobody knows how far it came: any bytes in the range and past the old end, the same elsewhere
pub record IsTorn (at n : ℕ) (old new : List ℕ) : Type 0 where
  pub stays : (i : ℕ) → i < length old → IsOutside at n i → slice_index new i ≡ slice_index old i
  pub no_shorter : length old ≤ length new
  pub no_longer : length new ≤ max (length old) (at + n)

-- these bytes stand at this place
pub record Holds (at : ℕ) (bytes new : List ℕ) : Type 0 where
  pub within : (i : ℕ) → i < length bytes → at + i < length new
  pub each : (i : ℕ) → i < length bytes → slice_index new (at + i) ≡ slice_index bytes i

-- a read of n bytes, the next ones from `at` on; of none only at or past the end, or where none were asked for
pub record IsRead (file : List ℕ) (at n : ℕ) (buf : List ℕ) : Type 0 where
  pub fits : n ≤ length buf
  pub bytes : take n buf ≡ take n (drop at file)
  pub within : 0 < n → at + n ≤ length file
  pub at_end : n ≡ 0 → 0 < length buf → length file ≤ at

-- each image that a crash may leave now is one that it could leave before, after a step
abbrev pub Follows : (List ℕ → List ℕ → Type 0) → (List ℕ → Type 0) → (List ℕ → Type 0) → Type 0
Follows step old new = (c : List ℕ) → new c → (d : List ℕ) × old d × step d c

-- no other image than before
abbrev pub NoMore : (List ℕ → Type 0) → (List ℕ → Type 0) → Type 0
NoMore old new = (c : List ℕ) → new c → old c

-- a crash leaves this and nothing else
abbrev pub Only : List ℕ → (List ℕ → Type 0) → Type 0
Only file images = (c : List ℕ) → images c → c ≡ file

-- time goes on: a crash since t might have left what it might have left before, or what it may leave now
pub record Elapses (before now : ℕ) (past since : ℕ → List ℕ → Type 0) (may_leave : List ℕ → Type 0) : Type 0 where
  pub later : before ≤ now
  pub nothing_else : (t : ℕ) (c : List ℕ) → t ≤ before → since t c → past t c ⊎ may_leave c
  pub keeps : (t : ℕ) (c : List ℕ) → t ≤ before → past t c → since t c

-- a crash at any moment since old leaves a file that has P
pub record LeavesOnly {D : Type 0} (moment : D → ℕ) (left_since : D → ℕ → List ℕ → Type 0) (old new : D) (P : List ℕ → Type 0) : Type 0 where
  pub later : moment old ≤ moment new
  pub each : (c : List ℕ) → left_since new (moment old) c → P c
  -- for a run that began earlier
  pub before : (t : ℕ) (c : List ℕ) → t ≤ moment old → left_since new t c → left_since old t c ⊎ P c

-- nothing was written: the bytes are the same, a crash at any moment leaves what it could leave before, and the disk can hold as many bytes
pub record IsQuiet {D : Type 0} (seen : D → List ℕ) (may_leave : D → List ℕ → Type 0) (moment : D → ℕ) (left_since : D → ℕ → List ℕ → Type 0) (faults capacity : D → ℕ) (old new : D) : Type 0 where
  pub same : seen new ≡ seen old
  pub crash : NoMore (may_leave old) (may_leave new)
  pub any_moment : LeavesOnly moment left_since old new (may_leave old)
  pub later : faults old ≤ faults new
  pub stays : capacity new ≡ capacity old
