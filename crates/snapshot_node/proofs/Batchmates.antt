-- Edges at the members of a batch: each member has begun and is numbered from the batch's horizon on.
use Rattle.std.specs.Prelude.{IsTrue}
use Rattle.std.proofs.Common.{◌≡◌, ℕ, Bool, ◌+◌, ◌<◌, ◌≤◌, true, false, ◌⊎◌, List, Option, Some, None, sym, ◌∙◌, subst, inl, inr, arith, eqb, ◌-◌, eqb-true, eq-eqb}
use Rattle.std.proofs.lemmas.Bool.{cases_lt, both_ways, and_parts, and_from}
use Rattle.teb_rules.specs.declared.names.Txn.{Txn}
use Rattle.teb_rules.specs.declared.history.Event.{Event}
use Rattle.teb_rules.specs.declared.history.Event.TheVariants.{Got}
use Rattle.teb_rules.specs.history.Accesses.{is_got, got, wrote, got_at}
use Rattle.teb_rules.specs.history.Phases.{begun, begun_count}
use Rattle.teb_rules.proofs.lemmas.history.Any.{came_any}
use Rattle.teb_rules.specs.history.OwnEvents.{is_of}
use Rattle.version_chain.proofs.Cells.{same_cell-itself}
use Rattle.batch_book.specs.Fields.{Has}
use Rattle.batch_book.proofs.Elements.{any_Has, Has-any}
use Rattle.teb_rules.specs.Setup.{Setup}
use Rattle.teb_rules.specs.Tree.{on, side}
use Rattle.teb_rules.specs.Batches.{start, one_batch}
use Rattle.teb_rules.specs.Controls.{edge}
use Rattle.teb_rules.specs.laws.Lawful.{Lawful}
use Rattle.teb_rules.proofs.lemmas.laws.Intervals.{interval}
use Rattle.teb_rules.proofs.lemmas.laws.Nodes.{meets_parts}
use Rattle.teb_rules.proofs.lemmas.laws.Pivots.{edge_parts}
use Rattle.phase_api.specs.declared.facts.Facts.{Facts}
use Rattle.phase_api.specs.FactsView.{IsOrderly, setup_of, events_of}
use Rattle.phase_api.specs.Calls.{IsHere}
use Rattle.batch_book.specs.Histories.{ClosedBelow, IsNumbered}
use Rattle.batch_book.proofs.Numbered.{begun_all}
use Rattle.snapshot_node.specs.Pivots.{is_at_stake, is_mate, IsLeast, IsLeastEdgeFrom, lesser_of, Leads, Leaves, ReachesOne}
use Rattle.snapshot_node.proofs.Listed.{here_from}
use Rattle.snapshot_node.proofs.Edges.{gets_put, is_touch, past_touch, begun_place}
use Rattle.snapshot_node.proofs.Least.{least_as, least_either}

-- the parts of one_batch: both are on the node, with the same side and the same start
pub batch_parts : (S : Setup) (H : List Event) (n b c : ℕ) → one_batch S H n b c ≡ true → (on S H n b ≡ true) × (on S H n c ≡ true) × (side S H n b ≡ side S H n c) × (start S H n b ≡ start S H n c)
unfolding one_batch
batch_parts S H n b c h = let q = and_parts _ _ h in let r = and_parts _ _ q.0 in let s = and_parts _ _ r.0 in (s.0, s.1, eqb-true _ _ r.1, eqb-true _ _ q.1)

pub batch_sym : (S : Setup) (H : List Event) (n b c : ℕ) → one_batch S H n b c ≡ true → one_batch S H n c b ≡ true
unfolding one_batch
batch_sym S H n b c h = let p = batch_parts S H n b c h in and_from _ _ (and_from _ _ (and_from _ _ p.1 p.0) (eq-eqb _ _ (sym p.2))) (eq-eqb _ _ (sym p.3))

pub batch_trans : (S : Setup) (H : List Event) (n a b c : ℕ) → one_batch S H n a b ≡ true → one_batch S H n b c ≡ true → one_batch S H n a c ≡ true
unfolding one_batch
batch_trans S H n a b c h k =
    let p = batch_parts S H n a b h in
    let q = batch_parts S H n b c k in
    and_from _ _ (and_from _ _ (and_from _ _ p.0 q.1) (eq-eqb _ _ (p.2 ∙ q.2))) (eq-eqb _ _ (p.3 ∙ q.3))

-- both ends of an edge have begun
pub edge_begun : (S : Setup) (H : List Event) (n a b : ℕ) → IsOrderly S H → edge S H n a b ≡ true → (begun H a ≡ true) × (begun H b ≡ true)
unfolding got got_at
edge_begun S H n a b o e = let r = any_Has (is_touch H a b) H (past_touch S H a b H (edge_parts S H n a b e).3) in each r.0 r.1 r.2
  where
    each : (e : Event) → Has e H → is_touch H a b e ≡ true → (begun H a ≡ true) × (begun H b ≡ true)
    each (Got s x w v) i q =
        let p = and_parts (eqb s.0 a) (wrote H b x) q in
        (o.got a x (came_any (is_got a x) H ∙ Has-any (is_got a x) (Got s x w v) H i (and_from _ _ p.0 (same_cell-itself x))), o.wrote b x p.1)
    each e i q = let z = (and_parts (is_of a e) (gets_put H b e) q).1 in absurd (cc)

pub leads_here : (f : Facts) (n t a b : ℕ) → IsOrderly (setup_of f) (events_of f) → Leads (setup_of f) (events_of f) n t a b → IsHere f n a × IsHere f n b
leads_here f n t a b o e =
    let g = edge_begun (setup_of f) (events_of f) n a b o e.edge in
    let m = meets_parts (setup_of f) (events_of f) n a b (edge_parts (setup_of f) (events_of f) n a b e.edge).0 in
    (here_from f n a o g.0 m.0, here_from f n b o g.1 m.1)

-- transaction i + 1, if it is of b's batch, is on the node
pub mate_here : (f : Facts) (n t b i : ℕ) → IsNumbered (events_of f) → IsOrderly (setup_of f) (events_of f) → i < begun_count (events_of f) → is_mate (setup_of f) (events_of f) n t b (i + 1) ≡ true
    → IsHere f n (i + 1)
mate_here f n t b i k o l m =
    here_from f n (i + 1) o (begun_all (events_of f) (i + 1) k (omega arith) (omega arith))
    (batch_parts (setup_of f) (events_of f) n b (i + 1) (and_parts (one_batch (setup_of f) (events_of f) n b (i + 1)) (is_at_stake (events_of f) t (i + 1)) m).0).1

-- no member of b's batch is numbered below the horizon of b
module _ (S : Setup) (H : List Event) (n b first : ℕ) (l : Lawful S H) (o : IsOrderly S H) (below : ClosedBelow S H n b first) where
  mate_from : (c : ℕ) → begun H c ≡ true → one_batch S H n b c ≡ true → first ≤ c
  mate_from c bc h = elim (cases_lt c first) [
    | inl r ↦ (let p = batch_parts S H n b c h in
        let z = below c r bc p.1 in
        let s : start S H n b ≡ start S H n c = p.3 in
        let v = interval S H n c l (begun_place H c bc) p.1 in
        let v1 = v.by_began in let v2 = v.closes in
        absurd (omega arith))
    | inr r ↦ r
  ]

  above_first : (c : ℕ) → begun H c ≡ true → one_batch S H n b c ≡ true → first - 1 < c
  above_first c bc h = let z = (o.numbered c bc).0 in let y = mate_from c bc h in omega arith

module _ (S : Setup) (H : List Event) (n t b : ℕ) (p : ℕ → Bool) where
  -- every transaction that passes the test and leaves b's batch by an edge is numbered above i
  abbrev pub LeaveAbove : ℕ → Type 0
  LeaveAbove i = (c d : ℕ) → IsTrue (p c) → Leaves S H n t b c d → i < c

  pub leave_above : (first : ℕ) → Lawful S H → IsOrderly S H → ClosedBelow S H n b first → LeaveAbove (first - 1)
  leave_above first l o below = λ c d q e. above_first S H n b first l o below c (edge_begun S H n c d o e.out.edge).0 e.batch

  leave_next : (i : ℕ) → LeaveAbove i → ((d : ℕ) → IsTrue (p (i + 1)) → Leaves S H n t b (i + 1) d → ⊥) → LeaveAbove (i + 1)
  leave_next i above none = λ c d q e. let z = above c d q e in elim (cases_lt (i + 1) c) [
    | inl r ↦ r
    | inr r ↦ (let k : c ≡ i + 1 = omega arith in absurd (none d (subst (λ (w : ℕ). IsTrue (p w)) k q) (subst (λ (w : ℕ). Leaves S H n t b w d) k e)))
  ]

  -- the next transaction does not pass, is not of the batch, is not at stake, or has no edge
  pub leave_unknown : (i : ℕ) → LeaveAbove i → p (i + 1) ≡ false → LeaveAbove (i + 1)
  leave_unknown i above f = leave_next i above (λ d q e. both_ways _ f q)

  pub leave_apart : (i : ℕ) → LeaveAbove i → is_mate S H n t b (i + 1) ≡ false → LeaveAbove (i + 1)
  leave_apart i above f = leave_next i above (λ d q e. both_ways _ f (and_from _ _ e.batch e.out.from))

  pub leave_none : (i : ℕ) → LeaveAbove i → IsLeast (Leads S H n t (i + 1)) None → LeaveAbove (i + 1)
  leave_none i above f = leave_next i above (λ d q e. f d e.out)

  pub leave_here : (i : ℕ) (d : Txn) → LeaveAbove i → is_mate S H n t b (i + 1) ≡ true → IsLeast (Leads S H n t (i + 1)) (Some d) → IsLeastEdgeFrom S H n t p b (Some (record { 0 = i + 1 }, d))
  leave_here i d above m k = (
    record { batch = (and_parts (one_batch S H n b (i + 1)) (is_at_stake H t (i + 1)) m).0; out = k.0 },
    λ c e q x. (let z = above c e q x in let y : i + 1 ≤ c = omega arith in y),
    λ e x. k.1 e x,
  )

  pub leave_end : (i : ℕ) → IsOrderly S H → LeaveAbove i → begun_count H ≤ i → IsLeastEdgeFrom S H n t p b None
  leave_end i o above f = λ c d q e. let z = above c d q e in let y = (o.numbered c (edge_begun S H n c d o e.out.edge).0).1 in absurd (omega arith)

-- a reaches a member of c's batch that passes the test and is numbered up to i
pub record ReachesBy (S : Setup) (H : List Event) (n t : ℕ) (p : ℕ → Bool) (c i a : ℕ) : Type 0 where
  pub one : ReachesOne S H n t p c a
  pub by : one.reach.member ≤ i

module _ (S : Setup) (H : List Event) (n t : ℕ) (p : ℕ → Bool) (c : ℕ) where
  pub reach_start : (first : ℕ) → Lawful S H → IsOrderly S H → ClosedBelow S H n c first → IsLeast (ReachesBy S H n t p c (first - 1)) None
  reach_start first l o below = λ a r.
      let m = r.one.reach.member in
      let z = above_first S H n c first l o below m (edge_begun S H n a m o r.one.reach.edge.edge).1 r.one.reach.batch in
      let y : m ≤ first - 1 = r.by in
      absurd (omega arith)

  pub reach_end : (i : ℕ) (best : Option Txn) → IsOrderly S H → begun_count H ≤ i → IsLeast (ReachesBy S H n t p c i) best → IsLeast (ReachesOne S H n t p c) best
  reach_end i best o f h = least_as (ReachesBy S H n t p c i) (ReachesOne S H n t p c) best (λ a r. r.one)
      (λ a r. record { one = r; by = (let z = (o.numbered r.reach.member (edge_begun S H n a r.reach.member o r.reach.edge.edge).1).1 in let y : r.reach.member ≤ i = omega arith in y) }) h

  reach_next : (i : ℕ) (best : Option Txn) → ((a : ℕ) (r : ReachesOne S H n t p c a) → r.reach.member ≡ i + 1 → ⊥) → IsLeast (ReachesBy S H n t p c i) best
      → IsLeast (ReachesBy S H n t p c (i + 1)) best
  reach_next i best none h = least_as (ReachesBy S H n t p c i) (ReachesBy S H n t p c (i + 1)) best
      (λ a r. record { one = r.one; by = (let z = r.by in let y : r.one.reach.member ≤ i + 1 = omega arith in y) })
      (λ a r. record { one = r.one; by = low a r }) h
    where
      low : (a : ℕ) (r : ReachesBy S H n t p c (i + 1) a) → r.one.reach.member ≤ i
      low a r = let m = r.one.reach.member in let z : m ≤ i + 1 = r.by in elim (cases_lt m (i + 1)) [
        | inl l ↦ omega arith
        | inr l ↦ (let e : m ≡ i + 1 = omega arith in absurd (none a r.one e))
      ]

  -- the next transaction does not pass, is not of the batch, or is not at stake
  pub reach_unknown : (i : ℕ) (best : Option Txn) → p (i + 1) ≡ false → IsLeast (ReachesBy S H n t p c i) best → IsLeast (ReachesBy S H n t p c (i + 1)) best
  reach_unknown i best f h = reach_next i best (λ a r e. both_ways _ f (subst (λ (w : ℕ). p w ≡ true) e r.passes)) h

  pub reach_apart : (i : ℕ) (best : Option Txn) → is_mate S H n t c (i + 1) ≡ false → IsLeast (ReachesBy S H n t p c i) best → IsLeast (ReachesBy S H n t p c (i + 1)) best
  reach_apart i best f h = reach_next i best (λ a r e. both_ways _ f (subst (λ (w : ℕ). is_mate S H n t c w ≡ true) e (and_from _ _ r.reach.batch r.reach.edge.to))) h

  pub reach_here : (i : ℕ) (best next : Option Txn) → p (i + 1) ≡ true → is_mate S H n t c (i + 1) ≡ true → IsLeast (ReachesBy S H n t p c i) best → IsLeast (λ a. Leads S H n t a (i + 1)) next
      → IsLeast (ReachesBy S H n t p c (i + 1)) (lesser_of best next)
  reach_here i best next q m h k = least_as (λ a. ReachesBy S H n t p c i a ⊎ Leads S H n t a (i + 1)) (ReachesBy S H n t p c (i + 1)) (lesser_of best next) to from
      (least_either (ReachesBy S H n t p c i) (λ a. Leads S H n t a (i + 1)) best next h k)
    where
      to : (a : ℕ) → ReachesBy S H n t p c i a ⊎ Leads S H n t a (i + 1) → ReachesBy S H n t p c (i + 1) a
      to a h = elim h [
        | inl r ↦ record { one = r.one; by = (let z = r.by in let y : r.one.reach.member ≤ i + 1 = omega arith in y) }
        | inr e ↦ record {
          one = record { reach = record { member = i + 1; batch = (and_parts (one_batch S H n c (i + 1)) (is_at_stake H t (i + 1)) m).0; edge = e }; passes = q };
          by = (let y : i + 1 ≤ i + 1 = omega arith in y);
        }
      ]

      from : (a : ℕ) → ReachesBy S H n t p c (i + 1) a → ReachesBy S H n t p c i a ⊎ Leads S H n t a (i + 1)
      from a r = let m = r.one.reach.member in let z : m ≤ i + 1 = r.by in elim (cases_lt m (i + 1)) [
        | inl l ↦ inl (record { one = r.one; by = (let y : m ≤ i = omega arith in y) })
        | inr l ↦ (let e : m ≡ i + 1 = omega arith in inr (subst (λ (w : ℕ). Leads S H n t a w) e r.one.reach.edge))
      ]
