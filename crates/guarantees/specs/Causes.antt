-- What each cause of an abort names.
use Rattle.std.specs.Prelude.{◌≡◌, ◌≢◌, ◌⊎◌, ℕ, ◌<◌, ◌≤◌, Bool, true, false, List, [], ◌∷◌, Some, IsTrue, IsFalse}
use Rattle.std.specs.List.{list_any}
use Rattle.teb_rules.specs.declared.names.Txn.{Txn}
use Rattle.teb_rules.specs.declared.names.Node.{Node}
use Rattle.teb_rules.specs.declared.names.Session.{Session}
use Rattle.teb_rules.specs.declared.names.Cell.{Cell}
use Rattle.teb_rules.specs.names.Cells.{same_cell}
use Rattle.teb_rules.specs.declared.names.Cause.{Cause}
use Rattle.teb_rules.specs.declared.names.Cause.TheVariants.{Late, First, Pivot, Newer, After, Asked, Ended}
use Rattle.teb_rules.specs.declared.names.ControlKind.TheVariants.{Timestamp, Snapshot}
use Rattle.teb_rules.specs.declared.names.Request.{Request}
use Rattle.teb_rules.specs.declared.names.Request.TheVariants.{Read, Write, Add, Delete, Scan, Prepare, Commit, Abort, End}
use Rattle.teb_rules.specs.declared.names.Reply.TheVariants.{Aborted}
use Rattle.teb_rules.specs.declared.history.Event.{Event}
use Rattle.teb_rules.specs.history.Phases.{unfinished, prepared, committed, aborted, cause_of, held}
use Rattle.teb_rules.specs.history.Accesses.{wrote}
use Rattle.teb_rules.specs.Setup.{Setup, Store}
use Rattle.teb_rules.specs.Tree.{row, meets}
use Rattle.teb_rules.specs.Batches.{start, close, concurrent, one_batch}
use Rattle.teb_rules.specs.Versions.{precedes}
use Rattle.teb_rules.specs.declared.Stop.{Stop}
use Rattle.teb_rules.specs.declared.Stop.TheVariants.{Go, Wait}
use Rattle.teb_rules.specs.Stops.{access_stop, scan_stop, prepare_stop, commit_stop}
use Rattle.teb_rules.specs.Serializes.{In}
use Rattle.teb_rules.specs.Answer.{answer, cells_from}
use Rattle.teb_rules.specs.laws.Laws.{is_read}

-- t read x from w: the history has that event
abbrev pub HasRead : List Event → ℕ → Cell → ℕ → Type 0
HasRead H t x w = IsTrue (list_any (is_read t x w) H)

-- the request puts a value into x, or deletes it
abbrev pub writes : Cell → Request → Bool
writes x (Write y v) = same_cell y x
writes x (Add y v) = same_cell y x
writes x (Delete y) = same_cell y x
writes x _ = false

-- u, of a later batch than t at the timestamp node n, has read x from the starting row, from t, or from a version before t's; so t's write of x is too late
pub record IsTooLate (S : Setup) (H : List Event) (r : Request) (t n u : ℕ) (x : Cell) : Type 0 where
  pub asks : IsTrue (writes x r)
  pub stamps : (row S.tree n).control ≡ Timestamp
  pub meet : IsTrue (meets S H n t u)
  pub stands : IsFalse (aborted H u)
  pub later : start S H n t < start S H n u
  pub from : ℕ
  pub read : HasRead H u x from
  pub before : (from ≡ t) ⊎ IsTrue (precedes S H x from t)

-- u committed a Put of x, and its batch at the snapshot node n was not closed before t's started; so t's write of x is not the first
pub record IsSecond (S : Setup) (H : List Event) (r : Request) (t n u : ℕ) (x : Cell) : Type 0 where
  pub asks : IsTrue (writes x r)
  pub snapshot : (row S.tree n).control ≡ Snapshot
  pub meet : IsTrue (meets S H n t u)
  pub done : IsTrue (committed H u)
  pub put : IsTrue (wrote H u x)
  pub unclosed : start S H n t ≤ close S H n u

-- a and b are concurrent at n, and a read a cell of which b has put a later version
pub record IsOverwritten (S : Setup) (H : List Event) (n a b : ℕ) : Type 0 where
  pub meet : IsTrue (meets S H n a b)
  pub together : IsTrue (concurrent S H n a b)
  pub cell : Cell
  pub from : ℕ
  pub read : HasRead H a cell from
  pub put : IsTrue (wrote H b cell)
  pub after : IsTrue (precedes S H cell from b)

-- b and c are of one batch at the snapshot node n, which a read leads into and a read leads out of; t, which is validated, is one of the four,
-- and the others are prepared or committed
pub record IsPivot (S : Setup) (H : List Event) (r : Request) (t n a b c d : ℕ) : Type 0 where
  pub asks : (r ≡ Prepare) ⊎ (r ≡ Commit)
  pub snapshot : (row S.tree n).control ≡ Snapshot
  pub into : IsOverwritten S H n a b
  pub mates : IsTrue (one_batch S H n b c)
  pub out : IsOverwritten S H n c d
  pub asker : In t (a ∷ b ∷ c ∷ d ∷ [])
  pub settled : (v : ℕ) → In v (a ∷ b ∷ c ∷ d ∷ []) → v ≢ t → IsTrue (prepared H v) ⊎ IsTrue (committed H v)

-- the stop of the request r of t: that of the first node from the root of t's path that breaks or waits
abbrev pub request_stop : Setup → List Event → ℕ → Request → Stop
request_stop S H t (Read x) = access_stop S H t x false
request_stop S H t (Write x v) = access_stop S H t x true
request_stop S H t (Add x v) = access_stop S H t x true
request_stop S H t (Delete x) = access_stop S H t x true
request_stop S H t (Scan x n) = scan_stop S H t (cells_from x n)
request_stop S H t Prepare = prepare_stop S H t
request_stop S H t Commit = commit_stop S H t
request_stop S H t _ = Go

-- the unfinished u, of a greater number than t, meets t at n, and the stop of t's request is a wait for u at n
pub record IsNewer (S : Setup) (H : List Event) (r : Request) (t : ℕ) (n : Node) (u : Txn) : Type 0 where
  pub running : IsTrue (unfinished H u.0)
  pub newer : t < u.0
  pub meet : IsTrue (meets S H n.0 t u.0)
  pub waits : request_stop S H t r ≡ Wait u n

-- t got what u, which is aborted, had put; and t is aborted, with this cause
pub record IsAfter (H : List Event) (t : ℕ) (u : Txn) : Type 0 where
  pub gone : IsTrue (aborted H t)
  pub kept : cause_of H t ≡ Some (After u)
  pub fell : IsTrue (aborted H u.0)
  pub cell : Cell
  pub read : HasRead H t cell u.0
  pub put : IsTrue (wrote H u.0 cell)

-- what a cause names that is told, after H, as the answer to the request r of t
abbrev pub IsGrounded : Setup → List Event → Request → ℕ → Cause → Type 0
IsGrounded S H r t (Late n u x) = IsTooLate S H r t n.0 u.0 x
IsGrounded S H r t (First n u x) = IsSecond S H r t n.0 u.0 x
IsGrounded S H r t (Pivot n a b c d) = IsPivot S H r t n.0 a.0 b.0 c.0 d.0
IsGrounded S H r t (Newer n u) = IsNewer S H r t n u
IsGrounded S H r t (After u) = IsAfter H t u
IsGrounded S H r t Asked = (r ≡ Abort) × IsTrue (unfinished H t)
IsGrounded S H r t Ended = (r ≡ End) × IsTrue (unfinished H t)

-- the session s, which is told c as the answer to r, holds a transaction t; c names its cause, and the history keeps c
pub record NamesCause (X : Store) (H : List Event) (s : Session) (r : Request) (c : Cause) : Type 0 where
  pub txn : ℕ
  pub holds : held H s.0 ≡ Some txn
  pub grounds : IsGrounded X.setup H r txn c
  pub kept : cause_of (answer X H s r).1 txn ≡ Some c

-- every abort that is told names its cause; every other transaction that an answer aborts read from one that it leaves aborted; and each
-- such cause that is kept is true
pub record NamesCauses (X : Store) (H : List Event) : Type 0 where
  pub told : (s : Session) (r : Request) (c : Cause) → (answer X H s r).0 ≡ Aborted c → NamesCause X H s r c
  pub others : (s : Session) (r : Request) (v : ℕ) → IsFalse (aborted H v) → IsTrue (aborted (answer X H s r).1 v) → held H s.0 ≢ Some v → (u : Txn) × IsAfter (answer X H s r).1 v u
  pub after : (t : ℕ) (u : Txn) → cause_of H t ≡ Some (After u) → IsAfter H t u
