-- Edges at a batch: those of members that are known to have one, and those of the validating transaction.
use Rattle.std.specs.Prelude.{IsTrue}
use Rattle.std.proofs.Common.{◌≡◌, ℕ, ◌<◌, ◌≤◌, Bool, false, cond, List, inl, inr, Option, Some, None, lt-ltb, le-ltb, le_refl, sym, subst, arith}
use Rattle.std.proofs.lemmas.Bool.{cases_lt, cases_eq, cases_Bool, both_ways}
use Rattle.teb_rules.specs.declared.names.Cell.{Cell}
use Rattle.teb_rules.specs.declared.names.Txn.{Txn}
use Rattle.teb_rules.specs.declared.names.ControlKind.TheVariants.{Snapshot}
use Rattle.teb_rules.specs.declared.history.Event.{Event}
use Rattle.teb_rules.specs.history.Phases.{aborted}
use Rattle.teb_rules.specs.Setup.{Setup}
use Rattle.teb_rules.specs.Tree.{row}
use Rattle.teb_rules.specs.Batches.{one_batch}
use Rattle.teb_rules.specs.laws.Lawful.{Lawful}
use Rattle.teb_rules.specs.laws.TreeFacts.{TreeFacts}
use Rattle.phase_api.specs.FactsView.{IsOrderly}
use Rattle.snapshot_node.specs.Standing.{writers_in}
use Rattle.snapshot_node.specs.Pivots.{IsLeast, IsLeastEdge, IsLeastEdgeAside, IsLeastEdgeFrom, IsLeastAside, IsMateAmong}
use Rattle.snapshot_node.specs.Pivots.{IsMateByPut, EntersAt, Leads, Leaves, Reaches, ReachesOne, lesser_of, earlier_of}
use Rattle.snapshot_node.proofs.Least.{least_as, Along}
use Rattle.snapshot_node.proofs.Middles.{Both, both_from, both_to}
use Rattle.snapshot_node.proofs.Accessed.{accesses_of}
use Rattle.snapshot_node.proofs.CellEdges.{Ahead, Behind, puts_across, listed_across, ahead_leads, leads_ahead, behind_leads, leads_behind}
use Rattle.snapshot_node.proofs.Comers.{stake_itself}

-- given the least member of b's batch that has an edge to t, the least edge out of the batch is known
module _ (S : Setup) (H : List Event) (n : ℕ) (t : Txn) (b : ℕ) where
  pub edge_with : (known : Option (Txn × Txn)) (c : Txn) → IsLeastEdgeAside S H n t.0 b known → IsLeast (λ u. Leaves S H n t.0 b u t.0) (Some c) → IsLeastEdge S H n t.0 b (earlier_of known (c, t))
  edge_with None c known least = (least.0, first, ends)
    where
      first : (u d : ℕ) → Leaves S H n t.0 b u d → c.0 ≤ u
      first u d e = least.1 u (subst (λ (z : ℕ). Leaves S H n t.0 b u z) (known u d e) e)

      ends : (d : ℕ) → Leads S H n t.0 c.0 d → t.0 ≤ d
      ends d e = let q = known c.0 d (record { batch = least.0.batch; out = e }) in omega arith
  edge_with (Some e) c known least = elim (cases_lt c.0 e.0.0) [
    | inl l ↦ subst (λ (z : Bool). IsLeastEdge S H n t.0 b (Some (cond z (c, t) e))) (sym (lt-ltb c.0 e.0.0 l)) (least.0, first l, ends l)
    | inr l ↦ subst (λ (z : Bool). IsLeastEdge S H n t.0 b (Some (cond z (c, t) e))) (sym (le-ltb c.0 e.0.0 l)) (known.0, least_known l, known.2)
  ]
    where
      first : c.0 < e.0.0 → (u d : ℕ) → Leaves S H n t.0 b u d → c.0 ≤ u
      first l u d x = elim (cases_eq d t.0) [ inl q ↦ least.1 u (subst (λ (z : ℕ). Leaves S H n t.0 b u z) q x) | inr ne ↦ (let z = known.1 u d x ne in omega arith) ]

      ends : c.0 < e.0.0 → (d : ℕ) → Leads S H n t.0 c.0 d → t.0 ≤ d
      ends l d x = elim (cases_eq d t.0) [ inl q ↦ omega arith | inr ne ↦ (let z = known.1 c.0 d (record { batch = least.0.batch; out = x }) ne in absurd (omega arith)) ]

      least_known : e.0.0 ≤ c.0 → (u d : ℕ) → Leaves S H n t.0 b u d → e.0.0 ≤ u
      least_known l u d x = elim (cases_eq d t.0) [ inl q ↦ (let z = least.1 u (subst (λ (z : ℕ). Leaves S H n t.0 b u z) q x) in omega arith) | inr ne ↦ known.1 u d x ne ]

  pub edge_without : (known : Option (Txn × Txn)) → IsLeastEdgeAside S H n t.0 b known → IsLeast (λ u. Leaves S H n t.0 b u t.0) None → IsLeastEdge S H n t.0 b known
  edge_without None known none = λ e. none e.from (subst (λ (z : ℕ). Leaves S H n t.0 b e.from z) (known e.from e.to e.out) e.out)
  edge_without (Some e) known none = (known.0, λ u d x. elim (cases_eq d t.0) [ inl q ↦ absurd (none u (subst (λ (z : ℕ). Leaves S H n t.0 b u z) q x)) | inr ne ↦ known.1 u d x ne ], known.2)

  -- a transaction that does not pass the test has edges to t only
  pub aside_known : (p : ℕ → Bool) → ((c d : ℕ) → p c ≡ false → Leads S H n t.0 c d → d ≡ t.0) → (known : Option (Txn × Txn)) → IsLeastEdgeFrom S H n t.0 p b known → IsLeastEdgeAside S H n t.0 b known
  aside_known p only None h = λ c d e. elim (cases_Bool (p c)) [ inl y ↦ absurd (h c d y e) | inr f ↦ only c d f e.out ]
  aside_known p only (Some k) h = (h.0, λ c d e ne. elim (cases_Bool (p c)) [ inl y ↦ h.1 c d y e | inr f ↦ absurd (ne (only c d f e.out)) ], h.2)

  -- only t has edges out of the batch other than to t
  module _ (mine : (c d : ℕ) → Leaves S H n t.0 b c d → (d ≡ t.0 → ⊥) → c ≡ t.0) where
    pub aside_none : ((d : ℕ) → Leaves S H n t.0 b t.0 d → ⊥) → IsLeastEdgeAside S H n t.0 b None
    aside_none none = λ c d e. elim (cases_eq d t.0) [ inl q ↦ q | inr ne ↦ absurd (none d (subst (λ (z : ℕ). Leaves S H n t.0 b z d) (mine c d e ne) e)) ]

    pub aside_own : (d : Txn) → IsTrue (one_batch S H n b t.0) → IsLeast (Leads S H n t.0 t.0) (Some d) → IsLeastEdgeAside S H n t.0 b (Some (t, d))
    aside_own d m h = (record { batch = m; out = h.0 }, λ c w e ne. subst (λ (z : ℕ). t.0 ≤ z) (sym (mine c w e ne)) (le_refl t.0), h.1)

-- given whether t has an edge into c's batch, the least that has one is known
module _ (S : Setup) (H : List Event) (n : ℕ) (t : Txn) (c : ℕ) where
  pub into_with : (known : Option Txn) (m : Txn) → IsLeastAside S H n t.0 c known → IsLeast (EntersAt S H n t.0 c) (Some m) → IsLeast (Reaches S H n t.0 c) (lesser_of known (Some t))
  into_with known m h k = go known h
    where
      reach : Reaches S H n t.0 c t.0
      reach = record { member = m.0; batch = k.0.batch; edge = k.0.into }

      go : (o : Option Txn) → IsLeastAside S H n t.0 c o → IsLeast (Reaches S H n t.0 c) (lesser_of o (Some t))
      go None h = (reach, λ a r. (let q = h a r in omega arith))
      go (Some u) h = elim (cases_lt t.0 u.0) [
        | inl l ↦ subst (λ (z : Bool). IsLeast (Reaches S H n t.0 c) (Some (cond z t u))) (sym (lt-ltb t.0 u.0 l))
            (reach, λ a r. elim (cases_eq a t.0) [ inl q ↦ omega arith | inr ne ↦ (let z = h.1 a r ne in omega arith) ])
        | inr l ↦ subst (λ (z : Bool). IsLeast (Reaches S H n t.0 c) (Some (cond z t u))) (sym (le-ltb t.0 u.0 l)) (h.0, λ a r. elim (cases_eq a t.0) [ inl q ↦ omega arith | inr ne ↦ h.1 a r ne ])
      ]

  pub into_without : (known : Option Txn) → IsLeastAside S H n t.0 c known → IsLeast (EntersAt S H n t.0 c) None → IsLeast (Reaches S H n t.0 c) known
  into_without known h none = go known h
    where
      never : (a : ℕ) → Reaches S H n t.0 c a → a ≡ t.0 → ⊥
      never a r q = none r.member (record { into = subst (λ (z : ℕ). Leads S H n t.0 z r.member) q r.edge; batch = r.batch })

      go : (o : Option Txn) → IsLeastAside S H n t.0 c o → IsLeast (Reaches S H n t.0 c) o
      go None h = λ a r. never a r (h a r)
      go (Some u) h = (h.0, λ a r. h.1 a r (never a r))

  -- a transaction that does not pass the test has an edge from t only
  pub into_known : (p : ℕ → Bool) → ((a b : ℕ) → p b ≡ false → Leads S H n t.0 a b → a ≡ t.0) → (known : Option Txn) → IsLeast (ReachesOne S H n t.0 p c) known → IsLeastAside S H n t.0 c known
  into_known p only None h = λ a r. elim (cases_Bool (p r.member)) [ inl y ↦ absurd (h a (record { reach = r; passes = y })) | inr f ↦ only a r.member f r.edge ]
  into_known p only (Some u) h = (h.0.reach, λ a r ne. elim (cases_Bool (p r.member)) [ inl y ↦ h.1 a (record { reach = r; passes = y }) | inr f ↦ absurd (ne (only a r.member f r.edge)) ])

  -- edges of others into the batch lead to t only
  module _ (mine : (a b : ℕ) → IsTrue (one_batch S H n c b) → Leads S H n t.0 a b → (a ≡ t.0 → ⊥) → b ≡ t.0) where
    pub into_none : (one_batch S H n c t.0 ≡ false) → IsLeastAside S H n t.0 c None
    into_none f = λ a r. elim (cases_eq a t.0) [ inl q ↦ q | inr ne ↦ absurd (both_ways _ f (subst (λ (z : ℕ). IsTrue (one_batch S H n c z)) (mine a r.member r.batch r.edge ne) r.batch)) ]

    pub into_own : (o : Option Txn) → IsTrue (one_batch S H n c t.0) → IsLeast (λ a. Leads S H n t.0 a t.0) o → IsLeastAside S H n t.0 c o
    into_own o m h = go o h
      where
        to_t : (a : ℕ) (r : Reaches S H n t.0 c a) → (a ≡ t.0 → ⊥) → Leads S H n t.0 a t.0
        to_t a r ne = subst (λ (z : ℕ). Leads S H n t.0 a z) (mine a r.member r.batch r.edge ne) r.edge

        go : (o : Option Txn) → IsLeast (λ a. Leads S H n t.0 a t.0) o → IsLeastAside S H n t.0 c o
        go None h = λ a r. elim (cases_eq a t.0) [ inl q ↦ q | inr ne ↦ absurd (h a (to_t a r ne)) ]
        go (Some u) h = (record { member = t.0; batch = m; edge = h.0 }, λ a r ne. h.1 a (to_t a r ne))

module _ (S : Setup) (H : List Event) (n t b : ℕ) where
  -- u is of b's batch
  abbrev pub IsMateOf : ℕ → Type 0
  IsMateOf u = IsTrue (one_batch S H n b u)

  module _ (l : Lawful S H) (o : IsOrderly S H) (runs : aborted H t ≡ false) where
    -- a transaction that has put a cell is among its writers, so the least mate among them is the least mate that has put it
    pub mate_writers : (x : Cell) (p : Option Txn) → IsLeast (IsMateAmong S H n t b (writers_in S H n x)) p → IsLeast (IsMateByPut S H n t b x) p
    mate_writers x p h = least_as (IsMateAmong S H n t b (writers_in S H n x)) (IsMateByPut S H n t b x) p (λ u y. (puts_across S H n t l o runs t x u y.0, y.1))
        (λ u y. (listed_across S H n t l o runs t x u y.0, y.1)) h

    module _ (f : TreeFacts S) (k : (row S.tree n).control ≡ Snapshot) where
      pub along_behind : (c : ℕ) → Along (Both (Behind S H n t t) IsMateOf) (accesses_of H t) c → Leaves S H n t b c t
      along_behind c h = let r = both_from (Behind S H n t t) IsMateOf (accesses_of H t) c h in record { batch = r.1; out = behind_leads S H n t l o runs f k t c (stake_itself H t) r.0 }

      pub behind_along : (c : ℕ) → Leaves S H n t b c t → Along (Both (Behind S H n t t) IsMateOf) (accesses_of H t) c
      behind_along c h = both_to (Behind S H n t t) IsMateOf (accesses_of H t) c (leads_behind S H n t l o runs f k t c h.out) h.batch

      pub along_ahead : (u : ℕ) → Along (Both (Ahead S H n t t) IsMateOf) (accesses_of H t) u → EntersAt S H n t b u
      along_ahead u h = let r = both_from (Ahead S H n t t) IsMateOf (accesses_of H t) u h in record { batch = r.1; into = ahead_leads S H n t l o runs f k t u (stake_itself H t) r.0 }

      pub ahead_along : (u : ℕ) → EntersAt S H n t b u → Along (Both (Ahead S H n t t) IsMateOf) (accesses_of H t) u
      ahead_along u h = both_to (Ahead S H n t t) IsMateOf (accesses_of H t) u (leads_ahead S H n t l o runs f k t u h.into) h.batch
