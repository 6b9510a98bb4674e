-- Reads that neither wait nor break, and reads that wait.
use Rattle.std.specs.Prelude.{◌≡◌, ℕ, Bool, true, false, List, Some, IsTrue}
use Rattle.teb_rules.specs.declared.names.Cell.{Cell}
use Rattle.teb_rules.specs.declared.names.Node.{Node}
use Rattle.teb_rules.specs.declared.names.Txn.{Txn}
use Rattle.teb_rules.specs.declared.names.Session.{Session}
use Rattle.teb_rules.specs.declared.names.Cause.TheVariants.{Late, First}
use Rattle.teb_rules.specs.declared.names.Request.{Request}
use Rattle.teb_rules.specs.declared.names.Request.TheVariants.{Read, Write, Add, Delete, Scan}
use Rattle.teb_rules.specs.declared.names.Reply.TheVariants.{Aborted, Again}
use Rattle.teb_rules.specs.declared.history.Event.{Event}
use Rattle.teb_rules.specs.history.Phases.{unfinished, held}
use Rattle.teb_rules.specs.history.Accesses.{wrote}
use Rattle.teb_rules.specs.Setup.{Store}
use Rattle.teb_rules.specs.Tree.{on, has_batches}
use Rattle.teb_rules.specs.Alone.{is_served}
use Rattle.teb_rules.specs.Answer.{answer}

-- every node of t's path is a timestamp or a snapshot node
abbrev pub ReadsFreely : Store → List Event → ℕ → Type 0
ReadsFreely X H t = (n : ℕ) → IsTrue (on X.setup H n t) → IsTrue (has_batches X.setup.tree n)

-- each Read of a running transaction is granted at once, unless it is refused
abbrev pub ReadsAreServed : Store → List Event → Type 0
ReadsAreServed X H = (s : Session) (t : ℕ) (x : Cell) → held H s.0 ≡ Some t → IsTrue (unfinished H t) → IsTrue (is_served (Read x) (answer X H s (Read x)).0)

-- the request writes a cell
abbrev pub is_write : Request → Bool
is_write (Write x v) = true
is_write (Add x v) = true
is_write (Delete x) = true
is_write _ = false

-- there each Read and each Scan of a running transaction is granted at once, unless it is refused; and in any tree Late and First answer writes alone
pub record ReadsGoOn (X : Store) (H : List Event) : Type 0 where
  pub reads : (s : Session) (t : ℕ) (x : Cell) → held H s.0 ≡ Some t → IsTrue (unfinished H t) → ReadsFreely X H t → IsTrue (is_served (Read x) (answer X H s (Read x)).0)
  pub scans : (s : Session) (t : ℕ) (x : Cell) (n : ℕ) → held H s.0 ≡ Some t → IsTrue (unfinished H t) → ReadsFreely X H t → IsTrue (is_served (Scan x n) (answer X H s (Scan x n)).0)
  pub late : (s : Session) (r : Request) (n : Node) (u : Txn) (x : Cell) → (answer X H s r).0 ≡ Aborted (Late n u x) → IsTrue (is_write r)
  pub first : (s : Session) (r : Request) (n : Node) (u : Txn) (x : Cell) → (answer X H s r).0 ≡ Aborted (First n u x) → IsTrue (is_write r)

-- a Read of a cell is told to wait for an unfinished transaction that has written the cell
pub record HasWaitingRead (X : Store) (H : List Event) : Type 0 where
  pub session : Session
  pub cell : Cell
  pub writer : Txn
  pub node : Node
  pub running : IsTrue (unfinished H writer.0)
  pub put : IsTrue (wrote H writer.0 cell)
  pub waits : (answer X H session (Read cell)).0 ≡ Again writer node
