-- The wait-for graph: no deadlock.
use Rattle.std.specs.Prelude.{◌≡◌, ◌≢◌, ℕ, ◌≤◌, List, Some, IsTrue}
use Rattle.teb_rules.specs.declared.names.Txn.{Txn}
use Rattle.teb_rules.specs.declared.names.Node.{Node}
use Rattle.teb_rules.specs.declared.names.Session.{Session}
use Rattle.teb_rules.specs.declared.names.Request.{Request}
use Rattle.teb_rules.specs.declared.names.Reply.TheVariants.{Again}
use Rattle.teb_rules.specs.declared.history.Event.{Event}
use Rattle.teb_rules.specs.history.Phases.{unfinished, held}
use Rattle.teb_rules.specs.Setup.{Store}
use Rattle.teb_rules.specs.Answer.{answer}

-- the graph of waits: some request of session s would be told to wait for a transaction, which session z holds
pub record WaitsFor (X : Store) (H : List Event) (s z : ℕ) : Type 0 where
  pub request : Request
  pub who : Txn
  pub node : Node
  pub told : (answer X H (record { 0 = s }) request).0 ≡ Again who node
  pub holds : held H z ≡ Some who.0

-- a way of one step or more along R
pub data Leads (R : ℕ → ℕ → Type 0) : ℕ → ℕ → Type 0 where
  step : (s z : ℕ) → R s z → Leads R s z
  further : (s y z : ℕ) → R s y → Leads R y z → Leads R s z

-- no session waits for itself, directly or over others; and the lowest-numbered unfinished transaction is never told to wait
pub record HasNoDeadlock (X : Store) (H : List Event) : Type 0 where
  pub no_cycle : (s : ℕ) → Leads (WaitsFor X H) s s → ⊥
  pub oldest : (s : Session) (t : ℕ) (r : Request) (u : Txn) (n : Node) → held H s.0 ≡ Some t → ((v : ℕ) → IsTrue (unfinished H v) → t ≤ v) → (answer X H s r).0 ≢ Again u n
  pub somebody : (t : ℕ) → IsTrue (unfinished H t) → (v : ℕ) × IsTrue (unfinished H v) × ((s : Session) (r : Request) (u : Txn) (n : Node) → held H s.0 ≡ Some v → (answer X H s r).0 ≢ Again u n)
