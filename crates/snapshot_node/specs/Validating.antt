-- Definitions about a validation.
use Rattle.std.specs.Prelude.{ℕ, Bool, ◌||◌, eqb, List, IsTrue, IsFalse}
use Rattle.teb_rules.specs.declared.names.Txn.{Txn}
use Rattle.teb_rules.specs.declared.history.Event.{Event}
use Rattle.teb_rules.specs.Setup.{Setup}
use Rattle.teb_rules.specs.Tree.{row}
use Rattle.teb_rules.specs.Batches.{start}
use Rattle.teb_rules.specs.Controls.{validate}
use Rattle.teb_rules.specs.declared.Verdict.{Verdict}
use Rattle.phase_api.specs.FactsView.{setup_of, events_of}
use Rattle.snapshot_node.specs.Pivots.{is_at_stake, AreHere, IsLeast, Leads}
use Rattle.snapshot_node.specs.Asking.{there}
use Rattle.snapshot_node.specs.Marks.{is_entered, is_left, is_behind, is_ahead, place_of_txn}
use Rattle.snapshot_node.specs.declared.validation.Validation.{Validation}
use Rattle.snapshot_node.specs.declared.validation.Own.{Own}

-- the node is on the path of each of them
abbrev pub AreAt : Validation → List Txn → Type 0
AreAt v ts = AreHere v.asked.facts.now v.asked.register.now.node.0 ts

abbrev pub IsAtStake : Validation → ℕ → Type 0
IsAtStake v u = IsTrue (is_at_stake (events_of v.asked.facts.now) v.t.0 u)

-- what the rules say
abbrev pub ruled : Validation → Verdict
ruled v = there v.asked (validate (row (setup_of v.asked.facts.now).tree v.asked.register.now.node.0).control) v.t.0

-- a definition, applied to the setup, the history, the node and the transaction that validates
abbrev pub at {ℓ} : {A : Type ℓ} → Validation → (Setup → List Event → ℕ → ℕ → A) → A
at v p = there v.asked p v.t.0

-- an edge is known to lead into the batch of u, or to leave it
abbrev pub is_marked_entered : Validation → ℕ → Bool
is_marked_entered v u = is_entered v.marks.now (there v.asked start u)

abbrev pub is_marked_left : Validation → ℕ → Bool
is_marked_left v u = is_left v.marks.now (there v.asked start u)

-- the least to which the transaction that validates has an edge, and the least that has an edge to it; and whether it may have one to a
-- transaction whose batch is known to be left, or one from a transaction whose batch is known to be entered
pub record AreOwn (v : Validation) (own : Own) : Type 0 where
  pub ahead : IsLeast (at v Leads v.t.0) own.ahead
  pub behind : IsLeast (λ a. at v Leads a v.t.0) own.behind
  pub left : IsFalse own.left → (b : ℕ) → at v Leads v.t.0 b → IsTrue (is_marked_left v b) → ⊥
  pub entered : IsFalse own.entered → (a : ℕ) → at v Leads a v.t.0 → IsTrue (is_marked_entered v a) → ⊥

-- c is the one that validates, or known to have an edge; and an edge is known to lead to it
abbrev pub may_lead : Validation → ℕ → Bool
may_lead v c = eqb c v.t.0 || is_ahead v.marks.now (place_of_txn c)

abbrev pub may_be_led_to : Validation → ℕ → Bool
may_be_led_to v b = eqb b v.t.0 || is_behind v.marks.now (place_of_txn b)
