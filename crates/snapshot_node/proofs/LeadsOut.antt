-- The transactions that have an edge to a committed one, found by their reads.
use Rattle.std.proofs.Common.{◌≡◌, ℕ, Bool, true, false, ◌&&◌, List, ℤ, Option, refl, sym, ◌∙◌}
use Rattle.std.specs.List.{list_any}
use Rattle.std.proofs.lemmas.Bool.{both_ways, and_parts, or_right, false_from_ne_true}
use Rattle.teb_rules.specs.declared.names.Cell.{Cell}
use Rattle.teb_rules.specs.declared.names.Txn.{Txn}
use Rattle.teb_rules.specs.declared.names.ControlKind.TheVariants.{Snapshot}
use Rattle.teb_rules.specs.declared.history.Event.{Event}
use Rattle.teb_rules.specs.declared.history.Event.TheVariants.{Began, Got, Put, Ready, Done, Gone, Told}
use Rattle.teb_rules.specs.history.OwnEvents.{own_events}
use Rattle.teb_rules.specs.history.Phases.{txns, prepared, committed}
use Rattle.teb_rules.specs.Controls.{edge}
use Rattle.teb_rules.specs.Setup.{Setup}
use Rattle.teb_rules.specs.Tree.{row}
use Rattle.teb_rules.specs.laws.Lawful.{Lawful}
use Rattle.teb_rules.specs.laws.TreeFacts.{TreeFacts}
use Rattle.teb_rules.proofs.lemmas.laws.Grows.{not_aborted}
use Rattle.phase_api.specs.FactsView.{IsOrderly}
use Rattle.snapshot_node.specs.declared.marks.Mark.{Mark}
use Rattle.snapshot_node.specs.Leaving.{has_edge, is_beside, is_overwritten}
use Rattle.snapshot_node.specs.Marks.{is_ahead, place_of_txn, AreMarked}
use Rattle.snapshot_node.specs.Pivots.{is_across}
use Rattle.snapshot_node.proofs.AnyOf.{any_is, any_no, any_swap}
use Rattle.snapshot_node.proofs.CellEdges.{edge_shared}
use Rattle.snapshot_node.proofs.Edges.{gets_put, edge_found}

-- the event is a Got of a cell that a committed transaction across from a has put
abbrev pub gets_overwritten : Setup → List Event → ℕ → ℕ → Event → Bool
gets_overwritten S H n a (Got s x w v) = is_overwritten S H n a x
gets_overwritten S H n a _ = false

-- the same by pairs of transactions
by_pairs : (S : Setup) (H : List Event) (n a : ℕ) (e : Event) → gets_overwritten S H n a e ≡ list_any (λ b. is_beside S H n a b && gets_put H b e) (txns H)
by_pairs S H n a (Got t x w v) = refl
by_pairs S H n a (Began t s k i) = sym (any_no (is_beside S H n a) (txns H))
by_pairs S H n a (Put t x v) = sym (any_no (is_beside S H n a) (txns H))
by_pairs S H n a (Ready t) = sym (any_no (is_beside S H n a) (txns H))
by_pairs S H n a (Done t) = sym (any_no (is_beside S H n a) (txns H))
by_pairs S H n a (Gone t c) = sym (any_no (is_beside S H n a) (txns H))
by_pairs S H n a (Told t) = sym (any_no (is_beside S H n a) (txns H))

pub not_got : (S : Setup) (H : List Event) (n a : ℕ) (e : Event) → ((t : Txn) (x : Cell) (w : Txn) (v : Option ℤ) → e ≡ Got t x w v → ⊥) → gets_overwritten S H n a e ≡ false
not_got S H n a (Got t x w v) f = absurd (f t x w v refl)
not_got S H n a (Began t s k i) f = refl
not_got S H n a (Put t x v) f = refl
not_got S H n a (Ready t) f = refl
not_got S H n a (Done t) f = refl
not_got S H n a (Gone t c) f = refl
not_got S H n a (Told t) f = refl

-- a has an edge if and only if one of its reads is of such a cell
pub by_reads : (S : Setup) (f : TreeFacts S) (H : List Event) (n a : ℕ) → Lawful S H → (row S.tree n).control ≡ Snapshot → list_any (gets_overwritten S H n a) (own_events H a) ≡ has_edge S H n a
by_reads S f H n a l c =
    (λ j. list_any (λ e. by_pairs S H n a e j) (own_events H a))
    ∙ any_swap (is_beside S H n a) (gets_put H) (txns H) (own_events H a)
    ∙ (λ j. list_any (λ b. as_edge b (committed H b) refl j) (txns H))
  where
    as_edge : (b : ℕ) (z : Bool) → committed H b ≡ z → ((z && is_across S H n a b) && list_any (gets_put H b) (own_events H a)) ≡ (z && edge S H n a b)
    as_edge b true e = edge_found S f H n l c a b (not_aborted S H b l e)
    as_edge b false e = refl

-- a committed transaction without a mark of an edge from it has no edge
pub unmarked : (S : Setup) (f : TreeFacts S) (H : List Event) (n a : ℕ) (ms : List Mark) → Lawful S H → IsOrderly S H → (row S.tree n).control ≡ Snapshot → AreMarked S H n ms → committed H a ≡ true
    → is_ahead ms (place_of_txn a) ≡ false → false ≡ has_edge S H n a
unmarked S f H n a ms l o c m k none = sym (false_from_ne_true _ (λ q.
    let b = any_is _ (txns H) q in
    let p = and_parts (committed H b.0) (edge S H n a b.0) b.1 in
    let e = edge_shared S H n a l o (not_aborted S H a l k) f c a b.0 (not_aborted S H b.0 l p.0) p.1 in
    both_ways _ none (m.told l a b.0 (or_right (prepared H a) _ k) (or_right (prepared H b.0) _ p.0) (record { cell = e.1.cell; read = e.1.read; put = e.1.put; across = e.0 })).ahead))
