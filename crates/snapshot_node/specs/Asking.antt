-- Definitions about a control that is asked.
use Rattle.std.specs.Prelude.{◌≡◌, ◌&&◌, ℕ, Bool, not, List, IsTrue, IsFalse, filter, leb, ltb}
use Rattle.teb_rules.specs.declared.names.Txn.{Txn}
use Rattle.teb_rules.specs.declared.history.Event.{Event}
use Rattle.teb_rules.specs.history.OwnEvents.{own_events}
use Rattle.teb_rules.specs.history.Phases.{begun, committed, aborted, unfinished}
use Rattle.teb_rules.specs.Setup.{Setup}
use Rattle.teb_rules.specs.Tree.{meets}
use Rattle.teb_rules.specs.Batches.{start, close}
use Rattle.teb_rules.specs.laws.Lawful.{Lawful}
use Rattle.phase_api.specs.FactsView.{setup_of, events_of}
use Rattle.phase_api.specs.Calls.{IsHere}
use Rattle.batch_book.specs.Histories.{ClosedBelow}
use Rattle.snapshot_node.specs.Pivots.{AreHere}
use Rattle.access_book.specs.Touched.{touched_in}
use Rattle.access_book.specs.Books.{Walk}
use Rattle.snapshot_node.specs.declared.asked.Asked.{Asked}

abbrev pub history : Asked → List Event
history a = events_of a.facts.now

abbrev pub HasBegun : Asked → ℕ → Type 0
HasBegun a u = IsTrue (begun (events_of a.facts.now) u)

-- the node is on the path of u
abbrev pub IsAt : Asked → ℕ → Type 0
IsAt a u = IsHere a.facts.now a.register.now.node.0 u

-- a definition, applied to the setup, the history and the node
abbrev pub there {ℓ} : {A : Type ℓ} → Asked → (Setup → List Event → ℕ → A) → A
there a p = p (setup_of a.facts.now) (events_of a.facts.now) a.register.now.node.0

-- the node is on the path of each of them
abbrev pub AreThere : Asked → List Txn → Type 0
AreThere a ts = AreHere a.facts.now a.register.now.node.0 ts

-- u is committed and meets t, and its batch is not closed before t's starts
abbrev pub comes_first : Setup → List Event → ℕ → ℕ → Txn → Bool
comes_first S H n t u = committed H u.0 && not (ltb (close S H n u.0) (start S H n t)) && meets S H n t u.0

-- u is unfinished and meets t
abbrev pub is_met : Setup → List Event → ℕ → ℕ → Txn → Bool
is_met S H n t u = unfinished H u.0 && meets S H n t u.0

-- those of some transactions from a number on; each one below it was of a batch that closed before t's started
pub record AreLate (a : Asked) (t : ℕ) (all us : List Txn) : Type 0 where
  pub from : ℕ
  pub below : there a ClosedBelow t from
  pub are : us ≡ filter (λ u. leb from u.0) all

-- the rules granted each event, and t is not aborted
pub record IsGranted (a : Asked) (t : ℕ) : Type 0 where
  pub lawful : Lawful (setup_of a.facts.now) (events_of a.facts.now)
  pub runs : IsFalse (aborted (events_of a.facts.now) t)

-- a walk over the accesses of t, in the control's own book, has all of them before it
pub record IsWalk (a : Asked) (t : ℕ) (w : Walk) : Type 0 where
  pub book : w.book ≡ a.register.now.accesses
  pub left : w.left ≡ touched_in (own_events (history a) t)
