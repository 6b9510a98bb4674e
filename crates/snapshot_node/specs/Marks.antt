-- Marks of batches and of transactions: whether an edge of those that are prepared or committed leads into a batch, and whether one leaves it; and whether one
-- leads to a transaction, and whether one leads from it.
use Rattle.std.specs.Prelude.{◌≡◌, ◌≤◌, ◌-◌, ℕ, Bool, false, IsTrue, List, length, get_or, Option, Some, None}
use Rattle.teb_rules.specs.declared.names.Cell.{Cell}
use Rattle.teb_rules.specs.declared.names.Txn.{Txn}
use Rattle.teb_rules.specs.declared.history.Event.{Event}
use Rattle.teb_rules.specs.declared.history.Event.TheVariants.{Ready, Done}
use Rattle.teb_rules.specs.history.Accesses.{wrote, got}
use Rattle.teb_rules.specs.Setup.{Setup}
use Rattle.teb_rules.specs.Batches.{start}
use Rattle.teb_rules.specs.laws.Lawful.{Lawful}
use Rattle.teb_rules.specs.laws.Pivots.{IsSettled}
use Rattle.batch_book.specs.Book.{Book}
use Rattle.access_book.specs.Books.{Shown}
use Rattle.snapshot_node.specs.declared.marks.Mark.{Mark}
use Rattle.snapshot_node.specs.Standing.{SnapshotStand}
use Rattle.snapshot_node.specs.Committed.{CommittedStand}
use Rattle.snapshot_node.specs.Pivots.{is_across}

abbrev pub no_mark : Mark
no_mark = record { entered = false; left = false; behind = false; ahead = false }

-- an edge is known to lead into the batch that starts at position i, or to leave it
abbrev pub is_entered : List Mark → ℕ → Bool
is_entered ms i = (get_or ms i no_mark).entered

abbrev pub is_left : List Mark → ℕ → Bool
is_left ms i = (get_or ms i no_mark).left

-- an edge is known to lead to the transaction of place i, or from it
abbrev pub is_behind : List Mark → ℕ → Bool
is_behind ms i = (get_or ms i no_mark).behind

abbrev pub is_ahead : List Mark → ℕ → Bool
is_ahead ms i = (get_or ms i no_mark).ahead

-- the place of transaction u: they are numbered from 1 on
abbrev pub place_of_txn : ℕ → ℕ
place_of_txn u = u - 1

-- the transaction that an event shows to be validated
abbrev pub validated_txn : Event → Option Txn
validated_txn (Ready t) = Some t
validated_txn (Done t) = Some t
validated_txn _ = None

-- what was marked stays so
pub record HaveGrown (old new : List Mark) : Type 0 where
  pub long : length new ≡ length old
  pub entered : (i : ℕ) → IsTrue (is_entered old i) → IsTrue (is_entered new i)
  pub left : (i : ℕ) → IsTrue (is_left old i) → IsTrue (is_left new i)
  pub behind : (i : ℕ) → IsTrue (is_behind old i) → IsTrue (is_behind new i)
  pub ahead : (i : ℕ) → IsTrue (is_ahead old i) → IsTrue (is_ahead new i)

-- the marks tell of an edge from u to w, at the batches of both and at both
pub record IsTold (S : Setup) (H : List Event) (n : ℕ) (ms : List Mark) (u w : ℕ) : Type 0 where
  pub left : IsTrue (is_left ms (start S H n u))
  pub entered : IsTrue (is_entered ms (start S H n w))
  pub ahead : IsTrue (is_ahead ms (place_of_txn u))
  pub behind : IsTrue (is_behind ms (place_of_txn w))

-- u and w are across from one another, and u has read a cell that w has put: if the rules granted each event, an edge leads from u to w
pub record Touches (S : Setup) (H : List Event) (n u w : ℕ) : Type 0 where
  pub cell : Cell
  pub read : IsTrue (got H u cell)
  pub put : IsTrue (wrote H w cell)
  pub across : IsTrue (is_across S H n u w)

-- if the rules granted each event, the marks tell of each edge among those that are prepared or committed
pub record AreMarked (S : Setup) (H : List Event) (n : ℕ) (ms : List Mark) : Type 0 where
  pub long : length H ≤ length ms
  pub told : Lawful S H → (u w : ℕ) → IsSettled H u → IsSettled H w → Touches S H n u w → IsTold S H n ms u w

-- which history a snapshot control stands for, by its register and its marks
pub record MarkedStand (n : ℕ) (batches : Book) (accesses : Shown) (marks : List Mark) (S : Setup) (H : List Event) : Type 0 where
  pub register : SnapshotStand n batches accesses S H
  pub committed : CommittedStand n accesses S H
  pub marked : AreMarked S H n marks
