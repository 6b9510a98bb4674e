-- The least first transaction of a pivot, by the place of the validating transaction in it.
use Rattle.std.specs.Prelude.{IsTrue}
use Rattle.std.proofs.Common.{◌≡◌, ℕ, true, false, eqb, List, ◌∷◌, ◌⊎◌, inl, inr, Option, Some, None, ◌≤◌, le_refl, refl, sym, subst, eqb-true, eq-eqb}
use Rattle.std.proofs.lemmas.Bool.{and_parts, or_left}
use Rattle.teb_rules.specs.declared.names.Txn.{Txn}
use Rattle.teb_rules.specs.declared.names.ControlKind.TheVariants.{Snapshot}
use Rattle.teb_rules.specs.declared.history.Event.{Event}
use Rattle.teb_rules.specs.history.Phases.{begun, prepared, committed, aborted}
use Rattle.teb_rules.specs.Setup.{Setup}
use Rattle.teb_rules.specs.Tree.{row, meets}
use Rattle.teb_rules.specs.Batches.{concurrent, one_batch}
use Rattle.teb_rules.specs.laws.Lawful.{Lawful}
use Rattle.teb_rules.specs.laws.TreeFacts.{TreeFacts}
use Rattle.teb_rules.proofs.lemmas.laws.Nodes.{meets_parts}
use Rattle.phase_api.specs.FactsView.{IsOrderly}
use Rattle.batch_book.specs.Fields.{Has}
use Rattle.batch_book.proofs.Elements.{any_Has, Has-any}
use Rattle.access_book.specs.Touched.{Touched, Reads, Puts}
use Rattle.snapshot_node.specs.Standing.{readers_in}
use Rattle.snapshot_node.specs.Pivots.{is_at_stake, is_across, lesser_of, IsLeast, Leads, Leaves, Reaches, IsMiddle, IsFirst, ComesBefore, ComesAfter, ComesIn, ComesInAmong}
use Rattle.snapshot_node.proofs.Least.{Remains, least_as, least_either, lesser_twice, remains_next, Along, along_of, along_item}
use Rattle.snapshot_node.proofs.Accessed.{accesses_of}
use Rattle.snapshot_node.proofs.CellEdges.{ByPut, Behind, behind_leads, leads_behind}
use Rattle.snapshot_node.proofs.Batchmates.{batch_parts, batch_sym, batch_trans}
use Rattle.snapshot_node.proofs.Reach.{with_t}

-- the validating transaction is at stake
pub stake_itself : (H : List Event) (t : ℕ) → is_at_stake H t t ≡ true
stake_itself H t = or_left _ (committed H t) (or_left _ (prepared H t) (eq-eqb t t refl))

module _ (S : Setup) (H : List Event) (n t : ℕ) where
  -- a comes in through a reader of the cell that the access has put
  abbrev pub ComesBy : Touched → ℕ → Type 0
  ComesBy = ByPut (λ x. ComesInAmong S H n t (readers_in S H n x))

  -- a comes in through the batch of c, which is at stake and across from t
  abbrev pub ComesThrough : Txn → ℕ → Type 0
  ComesThrough c a = IsTrue (is_at_stake H t c.0) × IsTrue (is_across S H n t c.0) × Reaches S H n t c.0 a

  module _ (cs : List Txn) where
    pub through_comes : (a : ℕ) → Along ComesThrough cs a → ComesInAmong S H n t cs a
    through_comes a h =
        let r = along_item ComesThrough a cs h in
        let i = Has-any (λ (u : Txn). eqb u.0 r.0.0) r.0 cs r.1 (eq-eqb r.0.0 r.0.0 refl) in
        record { third = r.0.0; into = r.2.2; across = record { listed = i; stake = r.2.0; across = r.2.1 } }

    pub comes_through : (a : ℕ) → ComesInAmong S H n t cs a → Along ComesThrough cs a
    comes_through a q =
        let c = q.third in
        let r = any_Has (λ (u : Txn). eqb u.0 c) cs q.across.listed in
        let y : ComesThrough (record { 0 = c }) a = (q.across.stake, q.across.across, q.into) in
        along_of ComesThrough a r.0 cs r.1 (subst (λ (z : ℕ). ComesThrough (record { 0 = z }) a) (sym (eqb-true r.0.0 c r.2)) y)

  module _ (l : Lawful S H) (o : IsOrderly S H) (runs : aborted H t ≡ false) where
    module _ (f : TreeFacts S) (k : (row S.tree n).control ≡ Snapshot) where
      pub along_comes : (a : ℕ) → Along ComesBy (accesses_of H t) a → ComesIn S H n t a
      along_comes a h = let r = along_item ComesBy a (accesses_of H t) h in each r.0 r.1 r.2
        where
          each : (z : Touched) → Has z (accesses_of H t) → ComesBy z a → ComesIn S H n t a
          each (Puts x) i q = record {
            third = q.third;
            into = q.into;
            out = behind_leads S H n t l o runs f k t q.third (stake_itself H t) (along_of (Behind S H n t t) q.third (Puts x) (accesses_of H t) i q.across);
          }
          each (Reads x) i q = absurd q

      pub comes_along : (a : ℕ) → ComesIn S H n t a → Along ComesBy (accesses_of H t) a
      comes_along a h =
          let r = along_item (Behind S H n t t) h.third (accesses_of H t) (leads_behind S H n t l o runs f k t h.third h.out) in
          along_of ComesBy a r.0 (accesses_of H t) r.1 (each r.0 r.2)
        where
          each : (z : Touched) → Behind S H n t t z h.third → ComesBy z a
          each (Puts x) q = record { third = h.third; into = h.into; across = q }
          each (Reads x) q = absurd q

-- the least number that has P or, if C holds, Q
pub least_with : (P Q : ℕ → Type 0) (C : Type 0) (best next : Option Txn) → C → IsLeast P best → IsLeast Q next → IsLeast (λ u. P u ⊎ (Q u × C)) (lesser_of best next)
least_with P Q C best next c h k = least_as (λ u. P u ⊎ Q u) (λ u. P u ⊎ (Q u × C)) (lesser_of best next) (λ u z. elim z [ inl p ↦ inl p | inr q ↦ inr (q, c) ])
    (λ u z. elim z [ inl p ↦ inl p | inr q ↦ inr q.0 ]) (least_either P Q best next h k)

pub least_without : (P Q : ℕ → Type 0) (C : Type 0) (best : Option Txn) → (C → ⊥) → IsLeast P best → IsLeast (λ u. P u ⊎ (Q u × C)) best
least_without P Q C best n h = least_as P (λ u. P u ⊎ (Q u × C)) best (λ u p. inl p) (λ u z. elim z [ inl p ↦ p | inr q ↦ absurd (n q.1) ]) h

module _ (S : Setup) (H : List Event) (n t : ℕ) where
  -- a is the first of a pivot in which t is the fourth, second, third or first
  abbrev WithFirst : ℕ → Type 0
  WithFirst a = ComesBefore S H n t a ⊎ ComesAfter S H n t a

  with_first : (a : ℕ) → WithFirst a → IsFirst S H n t a
  with_first a h = elim h [
    | inl h ↦ elim h [
      | inl q ↦ record {
        second = q.into.member;
        third = q.third;
        fourth = t;
        pivot = record { into = q.into.edge; out = record { batch = batch_sym S H n q.third q.into.member q.into.batch; out = q.out } };
      }
      | inr q ↦ record { second = t; third = q.1.from; fourth = q.1.to; pivot = record { into = q.0; out = q.1.out } }
    ]
    | inr h ↦ elim h [
      | inl q ↦ record { second = q.0.member; third = t; fourth = q.1.0; pivot = record { into = q.0.edge; out = record { batch = batch_sym S H n t q.0.member q.0.batch; out = q.1.1 } } }
      | inr q ↦ subst (IsFirst S H n t) (sym q.0) (record { second = q.1.0; third = q.1.1.left.from; fourth = q.1.1.left.to; pivot = record { into = q.1.1.into; out = q.1.1.left.out } })
    ]
  ]

  -- every pivot has t at one of these places
  module _ (l : Lawful S H) (f : TreeFacts S) (k : (row S.tree n).control ≡ Snapshot) where
    first_with : (a : ℕ) → IsFirst S H n t a → WithFirst a
    first_with a h =
        let p = h.pivot in
        let y = h.second in let c = h.third in let d = h.fourth in
        let batch = batch_sym S H n y c p.out.batch in
        with_t S H n t l f k a y c d p (WithFirst a)
        (λ q. inr (inr (q, (y, subst (λ (z : ℕ). IsMiddle S H n t z y) q (record { into = p.into; left = record { from = c; to = d; out = p.out } })))))
        (λ q. inl (inr (subst (λ (z : ℕ). Leads S H n t a z) q p.into, record { from = c; to = d; out = subst (λ (z : ℕ). Leaves S H n t z c d) q p.out })))
        (λ q. inr (inl (record { member = y; batch = subst (λ (z : ℕ). one_batch S H n z y ≡ true) q batch; edge = p.into }, (d, subst (λ (z : ℕ). Leads S H n t z d) q p.out.out))))
        (λ q. inl (inl (record { third = c; into = record { member = y; batch = batch; edge = p.into }; out = subst (λ (z : ℕ). Leads S H n t c z) q p.out.out })))

    pub least_comer : (o w : Option Txn) → IsLeast (ComesBefore S H n t) o → IsLeast (ComesAfter S H n t) w → IsLeast (IsFirst S H n t) (lesser_of o w)
    least_comer o w h g = least_as WithFirst (IsFirst S H n t) (lesser_of o w) with_first first_with (least_either (ComesBefore S H n t) (ComesAfter S H n t) o w h g)

  -- without an edge to t no transaction comes before it, and without an edge from t none comes after it
  pub none_before : ((a : ℕ) → Leads S H n t a t → ⊥) → IsLeast (ComesBefore S H n t) None
  none_before none = λ a h. elim h [ inl q ↦ none q.third q.out | inr q ↦ none a q.0 ]

  pub none_after : ((b : ℕ) → Leads S H n t t b → ⊥) → IsLeast (ComesAfter S H n t) None
  none_after none = λ a h. elim h [ inl q ↦ none q.1.0 q.1.1 | inr q ↦ none q.1.0 q.1.1.into ]

  -- with an edge from t: the least of t itself and of those that reach its batch, if there is a middle; else only of those that reach it
  pub after_with : (d : ℕ) → Leads S H n t t d → (o : Option Txn) (u : Txn) → u.0 ≡ t → IsLeast (Reaches S H n t t) o → (b : ℕ) × IsMiddle S H n t t b
      → IsLeast (ComesAfter S H n t) (lesser_of o (Some u))
  after_with d e o u q h m =
      least_as (λ a. Reaches S H n t t a ⊎ (a ≡ t)) (ComesAfter S H n t) (lesser_of o (Some u)) (λ a z. elim z [ inl r ↦ inl (r, (d, e)) | inr x ↦ inr (x, m) ])
      (λ a z. elim z [ inl r ↦ inl r.0 | inr x ↦ inr x.0 ])
      (least_either (Reaches S H n t t) (λ a. a ≡ t) o (Some u) h (q, λ a x. subst (λ (z : ℕ). u.0 ≤ z) (sym x) (subst (λ (z : ℕ). u.0 ≤ z) q (le_refl u.0))))

  pub after_without : (d : ℕ) → Leads S H n t t d → (o : Option Txn) → IsLeast (Reaches S H n t t) o → ((b : ℕ) → IsMiddle S H n t t b → ⊥) → IsLeast (ComesAfter S H n t) o
  after_without d e o h none = least_as (Reaches S H n t t) (ComesAfter S H n t) o (λ a r. inl (r, (d, e))) (λ a z. elim z [ inl r ↦ r.0 | inr x ↦ absurd (none x.1.0 x.1.1) ]) h

-- a walk along the transactions across from t asks one member of each batch
module _ (S : Setup) (H : List Event) (n t : ℕ) where
  -- a transaction that reaches b's batch reaches the batch of b's mate, which is the same
  reaches_mate : (b c u : ℕ) → one_batch S H n b c ≡ true → Reaches S H n t b u → Reaches S H n t c u
  reaches_mate b c u h r = record { member = r.member; batch = batch_trans S H n c b r.member (batch_sym S H n b c h) r.batch; edge = r.edge }

  -- the last transaction asked is t, or the least that reaches its batch does not improve on the best
  pub record IsLast (last : Txn) (best : Option Txn) : Type 0 where
    pub there : IsTrue (begun H last.0)
    pub asked : (last.0 ≡ t) ⊎ ((o : Option Txn) × IsLeast (Reaches S H n t last.0) o × (lesser_of best o ≡ best))

  pub last_first : (last : Txn) (best : Option Txn) → IsTrue (begun H last.0) → last.0 ≡ t → IsLast last best
  last_first last best b e = record { there = b; asked = inl e }

  pub last_next : (c : Txn) (best o : Option Txn) → IsTrue (begun H c.0) → IsLeast (Reaches S H n t c.0) o → IsLast c (lesser_of best o)
  last_next c best o b k = record { there = b; asked = inr (o, k, lesser_twice best o) }

  -- a mate of the last transaction asked adds nothing
  pub remains_mate : (P : ℕ → Type 0) (last c : Txn) (best : Option Txn) (left rest : List Txn) → left ≡ c ∷ rest → IsLast last best → one_batch S H n last.0 c.0 ≡ true → IsTrue (is_at_stake H t c.0)
      → IsTrue (is_across S H n t c.0)
      → Remains (ComesThrough S H n t) P left best → Remains (ComesThrough S H n t) P rest best
  remains_mate P last c best left rest e h m st ac r = elim h.asked [
    | inl q ↦ absurd ((meets_parts S H n t c.0 (and_parts (meets S H n t c.0) (concurrent S H n t c.0) ac).0).2 (batch_parts S H n t c.0 (subst (λ (z : ℕ). one_batch S H n z c.0 ≡ true) q m)).2)
    | inr k ↦ subst (Remains (ComesThrough S H n t) P rest) k.2 (remains_next (ComesThrough S H n t) P c left rest best k.0 e r
        (least_as (Reaches S H n t last.0) (ComesThrough S H n t c) k.0 (λ a z. (st, ac, reaches_mate last.0 c.0 a m z)) (λ a z. reaches_mate c.0 last.0 a (batch_sym S H n last.0 c.0 m) z.2) k.1))
  ]
