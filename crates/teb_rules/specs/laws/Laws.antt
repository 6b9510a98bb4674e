-- The laws of every run: X is the store, S its setup, and `asked` any list of requests, of any sessions, in any order.
use Rattle.std.specs.Prelude.{◌≡◌, ◌≢◌, ◌⊎◌, ℕ, ◌<◌, ◌≤◌, Bool, false, ◌&&◌, ◌||◌, eqb, leb, List, [], ◌∷◌, ◌++◌, length, Option, Some, None, ℤ, IsTrue, IsFalse}
use Rattle.std.specs.List.{list_any}
use Rattle.teb_rules.specs.declared.names.TheConstants.{SESSIONS}
use Rattle.teb_rules.specs.declared.names.Txn.{Txn}
use Rattle.teb_rules.specs.declared.names.Session.{Session}
use Rattle.teb_rules.specs.declared.names.Cell.{Cell}
use Rattle.teb_rules.specs.declared.names.Node.{Node}
use Rattle.teb_rules.specs.declared.names.Request.{Request}
use Rattle.teb_rules.specs.declared.names.Reply.TheVariants.{Again}
use Rattle.teb_rules.specs.declared.history.Event.{Event}
use Rattle.teb_rules.specs.declared.history.Event.TheVariants.{Got}
use Rattle.teb_rules.specs.history.Phases.{begun, untold, session_of, unfinished, committed, aborted, held}
use Rattle.teb_rules.specs.history.Accesses.{wrote}
use Rattle.teb_rules.specs.names.Cells.{same_cell}
use Rattle.teb_rules.specs.Setup.{Setup, Store}
use Rattle.teb_rules.specs.Tree.{on, side, meets}
use Rattle.teb_rules.specs.Accepted.{IsSound}
use Rattle.teb_rules.specs.Alone.{is_quiet, is_alone, is_served}
use Rattle.teb_rules.specs.Batches.{start, close, one_batch}
use Rattle.teb_rules.specs.declared.names.Spot.{Spot}
use Rattle.teb_rules.specs.declared.names.Request.TheVariants.{Begin}
use Rattle.teb_rules.specs.Versions.{precedes, value_left}
use Rattle.teb_rules.specs.Cascade.{cascade}
use Rattle.teb_rules.specs.Answer.{answer}
use Rattle.teb_rules.specs.Run.{history_after}
use Rattle.teb_rules.specs.Ranks.{rank, serial_order}
use Rattle.teb_rules.specs.Serializes.{Serializes}
use Rattle.teb_rules.specs.laws.TreeFacts.{IsAbove}

-- the history that a list of requests leads to
abbrev pub reached : Store → List (Session × Request) → List Event
reached X asked = history_after X [] asked

-- P holds of the store and the history of every run
abbrev pub OfEveryStore : (Store → List Event → Type 0) → Type 0
OfEveryStore P = (X : Store) → IsSound X.setup → (asked : List (Session × Request)) → P X (reached X asked)

-- P holds of the setup and the history of every run
abbrev pub OfEveryRun : (Setup → List Event → Type 0) → Type 0
OfEveryRun P = OfEveryStore (λ X. P X.setup)

-- the serial order serializes the history
abbrev pub EveryRunSerializes : Type 0
EveryRunSerializes = OfEveryStore (λ X H. Serializes X H (serial_order X.setup H))

-- t has put x and is not aborted, or it is the one transaction that is about to put x, and unfinished
pub record IsWriter (H : List Event) (x : Cell) (who t : ℕ) : Type 0 where
  pub stands : IsFalse (aborted H t)
  pub puts : IsTrue (wrote H t x) ⊎ ((t ≡ who) × IsTrue (unfinished H t))

-- the order of versions is a strict total order on the writers of a cell, also together with one that is about to put it
pub record OrdersVersions (S : Setup) (H : List Event) : Type 0 where
  pub irreflexive : (x : Cell) (u : ℕ) → IsFalse (precedes S H x u u)
  pub transitive : (x : Cell) (who u v w : ℕ) → IsWriter H x who u → IsWriter H x who v → IsWriter H x who w → IsTrue (precedes S H x u v) → IsTrue (precedes S H x v w) → IsTrue (precedes S H x u w)
  pub total : (x : Cell) (who u w : ℕ) → IsWriter H x who u → IsWriter H x who w → u ≢ w → IsTrue (precedes S H x u w) ⊎ IsTrue (precedes S H x w u)

-- the event is a Got of x by t, from w
abbrev pub is_read : ℕ → Cell → ℕ → Event → Bool
is_read t x w (Got s y u v) = eqb s.0 t && same_cell y x && eqb u.0 w
is_read t x w _ = false

-- conflicts of committed transactions are ordered by their ranks at the node where they meet
pub record OrdersConflicts (S : Setup) (H : List Event) : Type 0 where
  pub writes : (n u w : ℕ) (x : Cell) → IsTrue (committed H u) → IsTrue (committed H w) → IsTrue (meets S H n u w) → IsTrue (wrote H u x) → IsTrue (wrote H w x) → IsTrue (precedes S H x u w)
      → rank S H n u < rank S H n w
  pub reads : (n u w : ℕ) (x : Cell) → IsTrue (committed H u) → IsTrue (committed H w) → IsTrue (meets S H n u w) → IsTrue (list_any (is_read w x u) H) → rank S H n u < rank S H n w
  pub overwrites : (n u w v : ℕ) (x : Cell) → IsTrue (committed H u) → IsTrue (committed H w) → IsTrue (meets S H n u w) → IsTrue (list_any (is_read u x v) H) → u ≢ v → IsTrue (wrote H w x)
      → IsTrue (precedes S H x v w) → rank S H n u < rank S H n w

-- e is an event of the history
abbrev pub Stands : Event → List Event → Type 0
Stands e [] = ⊥
Stands e (d ∷ H) = (d ≡ e) ⊎ Stands e H

-- what a committed transaction read from another was the other's last version of the cell
abbrev pub ReadsAreStable : Setup → List Event → Type 0
ReadsAreStable S H = (t w : Txn) (x : Cell) (v : Option ℤ) → IsTrue (committed H t.0) → Stands (Got t x w v) H → 0 < w.0 → w.0 ≢ t.0 → v ≡ value_left H w.0 x

-- ranks at the nodes above one do not go against its order
abbrev pub RanksAgree : Setup → List Event → Type 0
RanksAgree S H = (m n u w : ℕ) → IsTrue (committed H u) → IsTrue (committed H w) → IsTrue (meets S H m u w) → IsAbove S n m → rank S H m u < rank S H m w → rank S H n u ≤ rank S H n w

-- all unfinished transactions of one side share its open batch; the batch of a transaction, aborted or not, lies within one batch of
-- each node above; and those of one batch are of one batch at each node above
pub record BatchesNest (S : Setup) (H : List Event) : Type 0 where
  pub one_open : (n t u : ℕ) → IsTrue (unfinished H t) → IsTrue (unfinished H u) → IsTrue (on S H n t) → IsTrue (on S H n u) → side S H n t ≡ side S H n u → start S H n t ≡ start S H n u
  pub nest : (n m t : ℕ) → IsTrue (begun H t) → IsTrue (on S H m t) → IsAbove S n m → (start S H n t ≤ start S H m t) × (close S H m t ≤ close S H n t)
  pub shared : (n m t u : ℕ) → IsTrue (begun H t) → IsTrue (begun H u) → IsTrue (one_batch S H m t u) → IsAbove S n m → IsTrue (one_batch S H n t u)

-- a session holds at most one transaction
abbrev pub SessionsHoldOne : Setup → List Event → Type 0
SessionsHoldOne S H = (t u : ℕ) → IsTrue (begun H t) → IsTrue (begun H u) → IsTrue (unfinished H t || untold H t) → IsTrue (unfinished H u || untold H u) → session_of H t ≡ session_of H u → t ≡ u

-- an abort takes fewer than SESSIONS others with it
abbrev pub CascadesAreFew : Setup → List Event → Type 0
CascadesAreFew S H = (t : ℕ) → IsTrue (unfinished H t) → length (cascade H t) < SESSIONS

-- the transaction that an Again names is unfinished, and of a smaller number than the one that the session holds
pub record IsOlder (H : List Event) (s u : ℕ) : Type 0 where
  pub running : IsTrue (unfinished H u)
  pub older : (t : ℕ) → held H s ≡ Some t → u < t

abbrev pub WaitsForOlder : Store → List Event → Type 0
WaitsForOlder X H = (s : Session) (r : Request) (u : Txn) (n : Node) → (answer X H s r).0 ≡ Again u n → IsOlder H s.0 u.0

-- an answer leaves what has happened, and so each outcome
pub record OnlyGrows (X : Store) (H : List Event) : Type 0 where
  pub grows : (s : Session) (r : Request) → (more : List Event) × ((answer X H s r).1 ≡ more ++ H)
  pub commits_stay : (s : Session) (r : Request) (t : ℕ) → IsTrue (committed H t) → IsTrue (committed (answer X H s r).1 t) × IsFalse (aborted (answer X H s r).1 t)
  pub aborts_stay : (s : Session) (r : Request) (t : ℕ) → IsTrue (aborted H t) → IsTrue (aborted (answer X H s r).1 t) × IsFalse (committed (answer X H s r).1 t)

-- a transaction that runs alone is never told to wait, and nothing breaks it; and if no transaction is unfinished, one may begin
pub record ServesAlone (X : Store) (H : List Event) : Type 0 where
  pub alone : (s : Session) (t : ℕ) (r : Request) → IsTrue (leb 1 s.0 && leb s.0 SESSIONS) → held H s.0 ≡ Some t → IsTrue (unfinished H t) → IsTrue (is_alone H t)
      → IsTrue (is_served r (answer X H s r).0)
  pub begins : (s : Session) (k : Spot) → held H s.0 ≡ None → IsTrue (is_quiet H) → IsTrue (is_served (Begin k) (answer X H s (Begin k)).0)
