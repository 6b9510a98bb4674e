-- The fields of a book, and what it shows by them.
use Rattle.std.specs.Prelude.{◌≡◌, ◌⊎◌, ◌≤◌, ◌<◌, ◌&&◌, ℕ, Bool, not, suc, cond, eqb, length, get_or, List, [], ◌∷◌, map, None}
use Rattle.std.specs.List.{All}
use Rattle.teb_rules.specs.history.Ascending.{IsAscendingBy}
use Rattle.batch_book.specs.declared.members.Member.{Member}
use Rattle.batch_book.specs.declared.members.Batch.{Batch}
use Rattle.batch_book.specs.Book.{Row, Running, start_on, admitted_on, closes_before}

-- the batch of a number that no batch has
abbrev pub no_batch : Batch
no_batch = record { side = 0; start = 0; close = None; admitted = 0; settled = 0 }

-- the batch of a member
abbrev pub batch_at : List Batch → Member → Batch
batch_at batches m = get_or batches m.batch no_batch

-- two batches start at different events, and neither closed before the other started
abbrev pub are_overlapping : Batch → Batch → Bool
are_overlapping a b = not (eqb a.start b.start) && not (closes_before a.close b.start) && not (closes_before b.close a.start)

abbrev pub member_number : Member → ℕ
member_number m = m.txn.0

abbrev pub row_shown : List Batch → Member → Row
row_shown batches m = record { txn = m.txn.0; side = (batch_at batches m).side; start = (batch_at batches m).start; close = (batch_at batches m).close }

abbrev pub running_shown : List Batch → Member → Running
running_shown batches m = record { txn = m.txn.0; side = (batch_at batches m).side; start = (batch_at batches m).start; admitted = (batch_at batches m).admitted }

-- x is in a list
unfoldable pub Has : {A : Type 0} → A → List A → Type 0
Has x [] = ⊥
Has x (y ∷ ys) = (y ≡ x) ⊎ Has x ys

-- of those that have joined, the running ones and the batches: each open batch is that of a running member, and a side has one
pub record IsHeld (joined running : List Member) (batches : List Batch) : Type 0 where
  pub ascending : IsAscendingBy member_number joined
  pub running_ascending : IsAscendingBy member_number running
  pub joined_within : All (λ m. m.batch < length batches) joined
  pub running_within : All (λ m. m.batch < length batches) running
  pub sides : (m : Member) → Has m running → m.side ≡ (batch_at batches m).side
  pub unclosed : (m : Member) → Has m running → (batch_at batches m).close ≡ None
  pub busy : (m : Member) → Has m joined → (batch_at batches m).close ≡ None → (o : Member) × Has o running × (o.batch ≡ m.batch)
  pub one_side : (m o : Member) → Has m running → Has o running → (batch_at batches m).side ≡ (batch_at batches o).side → m.batch ≡ o.batch
  pub few : (m : Member) → Has m running → (batch_at batches m).admitted ≤ length joined

-- one more has entered batch b of side s at position i
pub record Entered (running : List Member) (old new : List Batch) (s i b : ℕ) : Type 0 where
  pub within : b < length new
  pub longer : length old ≤ length new
  pub side : (m : Member) → m.batch < length old → (batch_at new m).side ≡ (batch_at old m).side
  pub start : (m : Member) → m.batch < length old → (batch_at new m).start ≡ (batch_at old m).start
  pub close : (m : Member) → m.batch < length old → (batch_at new m).close ≡ (batch_at old m).close
  pub admitted : (m : Member) → Has m running → (batch_at new m).admitted ≡ cond (eqb (batch_at old m).side s) (suc (batch_at old m).admitted) (batch_at old m).admitted
  pub mine : (m : Member) → Has m running → (batch_at old m).side ≡ s → m.batch ≡ b
  pub own_side : (get_or new b no_batch).side ≡ s
  pub own_start : (get_or new b no_batch).start ≡ start_on (map (running_shown old) running) s i
  pub own_close : (get_or new b no_batch).close ≡ None
  pub own_admitted : (get_or new b no_batch).admitted ≡ suc (admitted_on (map (running_shown old) running) s)
