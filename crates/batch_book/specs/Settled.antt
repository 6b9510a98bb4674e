-- How many of the first members were of batches that closed before a position.
use Rattle.std.specs.Prelude.{ℕ, ◌<◌, length, get_or, List, Option, Some, None}
use Rattle.batch_book.specs.declared.members.Member.{Member}
use Rattle.batch_book.specs.declared.members.Batch.{Batch}
use Rattle.batch_book.specs.Fields.{no_batch, batch_at, IsHeld}

-- the member of a place that has none
abbrev pub no_member : Member
no_member = record { txn = record { 0 = 0 }; side = 0; batch = 0 }

-- it closed, before position i
abbrev pub IsClosedBefore : ℕ → Option ℕ → Type 0
IsClosedBefore i None = ⊥
IsClosedBefore i (Some c) = c < i

-- the batches of the first n that have joined closed before position i
abbrev pub AreClosed : List Member → List Batch → ℕ → ℕ → Type 0
AreClosed joined batches i n = (j : ℕ) → j < n → IsClosedBefore i (batch_at batches (get_or joined j no_member)).close

-- each batch knows a number of first members, below n, whose batches closed before it started
pub record IsSettled (joined : List Member) (batches : List Batch) (n : ℕ) : Type 0 where
  pub fewer : (k : ℕ) → k < length batches → (get_or batches k no_batch).settled < n
  pub closed : (k : ℕ) → k < length batches → AreClosed joined batches (get_or batches k no_batch).start (get_or batches k no_batch).settled

-- what holds of the fields of a book
pub record IsKept (joined running : List Member) (batches : List Batch) : Type 0 where
  pub held : IsHeld joined running batches
  pub settled : IsSettled joined batches (length joined)
