-- Aborts that take another transaction with them, and trees that have none.
use Rattle.std.specs.Prelude.{◌≡◌, ◌≢◌, ℕ, List, [], Some, IsTrue}
use Rattle.teb_rules.specs.declared.names.Txn.{Txn}
use Rattle.teb_rules.specs.declared.names.Session.{Session}
use Rattle.teb_rules.specs.declared.names.Cause.TheVariants.{After}
use Rattle.teb_rules.specs.declared.names.Request.{Request}
use Rattle.teb_rules.specs.declared.names.Request.TheVariants.{Abort}
use Rattle.teb_rules.specs.declared.names.Reply.TheVariants.{Aborted}
use Rattle.teb_rules.specs.declared.history.Event.{Event}
use Rattle.teb_rules.specs.history.Phases.{aborted, cause_of, held, unfinished}
use Rattle.teb_rules.specs.history.Accesses.{read_from}
use Rattle.teb_rules.specs.Setup.{Store}
use Rattle.teb_rules.specs.Cascade.{cascade}
use Rattle.teb_rules.specs.Answer.{answer}
use Rattle.guarantees.specs.Shapes.{HidesUncommitted}

-- an abort takes no other transaction with it, no cause is After, and no session is told After
pub record HasNoCascade (X : Store) (H : List Event) : Type 0 where
  pub alone : (t : ℕ) → IsTrue (unfinished H t) → cascade H t ≡ []
  pub none_after : (t : ℕ) (u : Txn) → cause_of H t ≢ Some (After u)
  pub told : (s : Session) (r : Request) (u : Txn) → (answer X H s r).0 ≢ Aborted (After u)

-- this holds if every node is a locks or a snapshot node
abbrev pub AbortsAlone : Store → List Event → Type 0
AbortsAlone X H = HidesUncommitted X.setup → HasNoCascade X H

-- the Abort of a session aborts an unfinished transaction that has read from the session's own
pub record HasCascade (X : Store) (H : List Event) : Type 0 where
  pub session : Session
  pub own : ℕ
  pub reader : ℕ
  pub holds : held H session.0 ≡ Some own
  pub reads : IsTrue (read_from H reader own)
  pub running : IsTrue (unfinished H reader)
  pub falls : IsTrue (aborted (answer X H session Abort).1 reader)
