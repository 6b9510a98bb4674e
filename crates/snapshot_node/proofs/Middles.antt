-- The middle of a pivot: an edge leads to it, and an edge leaves its batch.
use Rattle.std.proofs.Common.{◌≡◌, ℕ, Bool, true, false, List, [], ◌∷◌, inl, inr, Option, Some, None, is_some}
use Rattle.teb_rules.specs.declared.names.Cell.{Cell}
use Rattle.teb_rules.specs.declared.names.Txn.{Txn}
use Rattle.teb_rules.specs.declared.names.ControlKind.TheVariants.{Snapshot}
use Rattle.teb_rules.specs.declared.history.Event.{Event}
use Rattle.teb_rules.specs.history.Phases.{aborted}
use Rattle.teb_rules.specs.Setup.{Setup}
use Rattle.teb_rules.specs.Tree.{row}
use Rattle.teb_rules.specs.laws.Lawful.{Lawful}
use Rattle.teb_rules.specs.laws.TreeFacts.{TreeFacts}
use Rattle.phase_api.specs.FactsView.{IsOrderly}
use Rattle.snapshot_node.specs.Standing.{writers_in}
use Rattle.snapshot_node.specs.Pivots.{is_at_stake, IsLeast, IsLeastEdge, PutsAcross, IsLeft, IsMiddle, IsMiddleAmong}
use Rattle.snapshot_node.proofs.Least.{least_as, Along}
use Rattle.snapshot_node.proofs.Accessed.{accesses_of}
use Rattle.snapshot_node.proofs.CellEdges.{Ahead, puts_across, listed_across, ahead_leads, leads_ahead}

-- is_some of an option says whether there is one
pub least_some : (P : ℕ → Type 0) (o : Option Txn) (b : Bool) → b ≡ is_some o → b ≡ true → IsLeast P o → (u : ℕ) × P u
least_some P None b e t h = absurd (cc)
least_some P (Some u) b e t h = (u.0, h.0)

pub least_none : (P : ℕ → Type 0) (o : Option Txn) (b : Bool) → b ≡ is_some o → b ≡ false → IsLeast P o → (u : ℕ) → P u → ⊥
least_none P None b e t h = h
least_none P (Some u) b e t h = absurd (cc)

module _ (S : Setup) (H : List Event) (n t b : ℕ) where
  pub is_left : (o : Option (Txn × Txn)) (z : Bool) → z ≡ is_some o → z ≡ true → IsLeastEdge S H n t b o → IsLeft S H n t b
  is_left None z e t h = absurd (cc)
  is_left (Some e) z q t h = record { from = e.0.0; to = e.1.0; out = h.0 }

  pub not_left : (o : Option (Txn × Txn)) (z : Bool) → z ≡ is_some o → z ≡ false → IsLeastEdge S H n t b o → IsLeft S H n t b → ⊥
  not_left None z e t h = h
  not_left (Some e) z q t h = absurd (cc)

-- along a list, R u can be stated with the item that has u, or apart from it
module _ {X : Type 0} (A : X → ℕ → Type 0) (R : ℕ → Type 0) where
  abbrev pub Both : X → ℕ → Type 0
  Both x u = A x u × R u

  pub both_from : (xs : List X) (u : ℕ) → Along Both xs u → Along A xs u × R u
  both_from [] u h = absurd h
  both_from (x ∷ xs) u h = elim h [ inl q ↦ (inl q.0, q.1) | inr r ↦ (let z = both_from xs u r in (inr z.0, z.1)) ]

  pub both_to : (xs : List X) (u : ℕ) → Along A xs u → R u → Along Both xs u
  both_to [] u h r = h
  both_to (x ∷ xs) u h r = elim h [ inl q ↦ inl (q, r) | inr k ↦ inr (both_to xs u k r) ]

module _ (S : Setup) (H : List Event) (n t : ℕ) (l : Lawful S H) (o : IsOrderly S H) (runs : aborted H t ≡ false) where
  -- a middle that has put a cell is among the writers of the cell
  pub middle_writers : (a : ℕ) (x : Cell) (p : Option Txn) → IsLeast (IsMiddleAmong S H n t a (writers_in S H n x)) p → IsLeast (λ b. PutsAcross S H n t a x b × IsLeft S H n t b) p
  middle_writers a x p h =
      least_as (IsMiddleAmong S H n t a (writers_in S H n x)) (λ b. PutsAcross S H n t a x b × IsLeft S H n t b) p
      (λ u y. (puts_across S H n t l o runs a x u y.across, y.left))
      (λ u y. record { across = listed_across S H n t l o runs a x u y.0; left = y.1 }) h

  -- by the accesses of a
  module _ (f : TreeFacts S) (k : (row S.tree n).control ≡ Snapshot) (a : ℕ) where
    pub along_middle : is_at_stake H t a ≡ true → (b : ℕ) → Along (Both (Ahead S H n t a) (IsLeft S H n t)) (accesses_of H a) b → IsMiddle S H n t a b
    along_middle st b h = let r = both_from (Ahead S H n t a) (IsLeft S H n t) (accesses_of H a) b h in record { into = ahead_leads S H n t l o runs f k a b st r.0; left = r.1 }

    pub middle_along : (b : ℕ) → IsMiddle S H n t a b → Along (Both (Ahead S H n t a) (IsLeft S H n t)) (accesses_of H a) b
    middle_along b h = both_to (Ahead S H n t a) (IsLeft S H n t) (accesses_of H a) b (leads_ahead S H n t l o runs f k a b h.into) h.left
