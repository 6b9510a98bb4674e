-- A transaction is in no pivot if it has no edge, or has edges in one direction only and no edge of others continues them.
use Rattle.std.specs.Prelude.{IsTrue, IsFalse}
use Rattle.std.proofs.Common.{◌≡◌, ◌≢◌, ℕ, true, false, ◌||◌, eqb, List, sym, ap, subst, inl, inr, eq-eqb, ◌∙◌}
use Rattle.std.proofs.lemmas.Bool.{cases_eq, both_ways, or_left, or_right}
use Rattle.teb_rules.specs.declared.names.ControlKind.TheVariants.{Snapshot}
use Rattle.teb_rules.specs.declared.names.Txn.{Txn}
use Rattle.teb_rules.specs.declared.history.Event.{Event}
use Rattle.teb_rules.specs.history.Phases.{aborted}
use Rattle.teb_rules.specs.Accepted.{IsSound}
use Rattle.teb_rules.specs.Setup.{Setup}
use Rattle.teb_rules.specs.Tree.{row}
use Rattle.teb_rules.specs.Batches.{start, one_batch}
use Rattle.teb_rules.specs.Controls.{edge}
use Rattle.teb_rules.specs.laws.Lawful.{Lawful}
use Rattle.teb_rules.proofs.lemmas.laws.Sound.{tree_facts}
use Rattle.teb_rules.proofs.lemmas.laws.Nodes.{meets_parts}
use Rattle.teb_rules.proofs.lemmas.laws.Pivots.{edge_parts}
use Rattle.phase_api.specs.FactsView.{IsOrderly}
use Rattle.snapshot_node.specs.declared.marks.Mark.{Mark}
use Rattle.snapshot_node.specs.declared.validation.Validation.{Validation}
use Rattle.snapshot_node.specs.Marks.{is_entered, is_left, is_ahead, is_behind, place_of_txn, AreMarked, IsTold}
use Rattle.snapshot_node.specs.Pivots.{IsAcross, Leads, Leaves, IsPivot, IsFirst}
use Rattle.snapshot_node.specs.Validating.{at, is_marked_entered, is_marked_left}
use Rattle.snapshot_node.proofs.Batchmates.{batch_parts, batch_sym}
use Rattle.snapshot_node.proofs.CellEdges.{edge_shared}
use Rattle.snapshot_node.proofs.Edges.{stake_stands}
use Rattle.snapshot_node.proofs.Reach.{settled, with_t}

-- a transaction that is at stake, across from t, in a list, and of a batch that is marked as left, or as entered
abbrev pub LeftAcross : Validation → List Txn → ℕ → Type 0
LeftAcross v among b = at v IsAcross v.t.0 among b × IsTrue (is_marked_left v b)

abbrev pub EnteredAcross : Validation → List Txn → ℕ → Type 0
EnteredAcross v among a = at v IsAcross v.t.0 among a × IsTrue (is_marked_entered v a)

module _ (S : Setup) (H : List Event) (n t : ℕ) (l : Lawful S H) (o : IsOrderly S H) (runs : aborted H t ≡ false) (i : IsSound S) (k : (row S.tree n).control ≡ Snapshot) (ms : List Mark)
    (m : AreMarked S H n ms) where
  -- no edge leads from a transaction to one of its own batch
  apart : (b c : ℕ) → one_batch S H n b c ≡ true → edge S H n b c ≡ true → ⊥
  apart b c same e = (meets_parts S H n b c (edge_parts S H n b c e).0).2 (batch_parts S H n b c same).2

  -- an edge between others is marked
  told : (u w : ℕ) → u ≢ t → w ≢ t → Leads S H n t u w → IsTold S H n ms u w
  told u w nu nw e =
      let p = edge_shared S H n t l o runs (tree_facts S i) k u w (stake_stands S H t w l runs e.to) e.edge in
      m.told l u w (settled H t u e.from nu) (settled H t w e.to nw) (record { cell = p.1.cell; read = p.1.read; put = p.1.put; across = p.0 })

  -- a transaction without a mark of an edge from it has at most an edge to t
  pub leads_only : (c d : ℕ) → IsFalse (eqb c t || is_ahead ms (place_of_txn c)) → Leads S H n t c d → d ≡ t
  leads_only c d unknown e = elim (cases_eq d t) [
    | inl q ↦ q
    | inr nd ↦ absurd (both_ways _ unknown (or_right (eqb c t) _ (told c d (λ q. both_ways _ unknown (or_left _ (is_ahead ms (place_of_txn c)) (eq-eqb c t q))) nd e).ahead))
  ]

  -- a transaction without a mark of an edge to it has at most an edge from t
  pub led_to_only : (a b : ℕ) → IsFalse (eqb b t || is_behind ms (place_of_txn b)) → Leads S H n t a b → a ≡ t
  led_to_only a b unknown e = elim (cases_eq a t) [
    | inl q ↦ q
    | inr na ↦ absurd (both_ways _ unknown (or_right (eqb b t) _ (told a b na (λ q. both_ways _ unknown (or_left _ (is_behind ms (place_of_txn b)) (eq-eqb b t q))) e).behind))
  ]

  -- if b's batch is not marked as left, only t has an edge out of it other than to t
  pub left_only : (b : ℕ) → IsFalse (is_left ms (start S H n b)) → (c d : ℕ) → Leaves S H n t b c d → (d ≡ t → ⊥) → c ≡ t
  left_only b unknown c d e nd = elim (cases_eq c t) [
    | inl q ↦ q
    | inr nc ↦ absurd (both_ways _ unknown (subst (λ (z : ℕ). IsTrue (is_left ms z)) (sym (batch_parts S H n b c e.batch).3) (told c d nc nd e.out).left))
  ]

  -- if c's batch is not marked as entered, the edges of others into it lead to t
  pub entered_only : (c : ℕ) → IsFalse (is_entered ms (start S H n c)) → (a b : ℕ) → IsTrue (one_batch S H n c b) → Leads S H n t a b → (a ≡ t → ⊥) → b ≡ t
  entered_only c unknown a b batch e na = elim (cases_eq b t) [
    | inl q ↦ q
    | inr nb ↦ absurd (both_ways _ unknown (subst (λ (z : ℕ). IsTrue (is_entered ms z)) (sym (batch_parts S H n c b batch).3) (told a b na nb e).entered))
  ]

  -- no transaction comes first in a pivot
  abbrev None : Type 0
  None = (a : ℕ) → IsFirst S H n t a → ⊥

  along : ((a b c d : ℕ) → IsPivot S H n t a b c d → ⊥) → None
  along f a h = f a h.second h.third h.fourth h.pivot

  pub none_alone : ((b : ℕ) → Leads S H n t t b → ⊥) → ((a : ℕ) → Leads S H n t a t → ⊥) → None
  none_alone from to = along (λ a b c d p. with_t S H n t l (tree_facts S i) k a b c d p ⊥
      (λ e. from b (subst (λ (z : ℕ). Leads S H n t z b) e p.into))
      (λ e. to a (subst (λ (z : ℕ). Leads S H n t a z) e p.into))
      (λ e. from d (subst (λ (z : ℕ). Leads S H n t z d) e p.out.out))
      (λ e. to c (subst (λ (z : ℕ). Leads S H n t c z) e p.out.out)))

  -- edges lead only from t
  pub none_ahead : ((a : ℕ) → Leads S H n t a t → ⊥) → IsFalse (is_entered ms (start S H n t)) → ((b : ℕ) → Leads S H n t t b → IsTrue (is_left ms (start S H n b)) → ⊥) → None
  none_ahead to enter left = along (λ a b c d p.
      let same = p.out.batch in
      let g = p.out.out in
      with_t S H n t l (tree_facts S i) k a b c d p ⊥
      (λ e. let q = subst (λ (z : ℕ). Leads S H n t z b) e p.into in
      elim (cases_eq c t) [
        | inl x ↦ apart t b (subst (λ (z : ℕ). one_batch S H n z b ≡ true) x (batch_sym S H n b c same)) q.edge
        | inr x ↦ elim (cases_eq d t) [
          | inl y ↦ to c (subst (λ (z : ℕ). Leads S H n t c z) y g)
          | inr y ↦ left b q (subst (λ (z : ℕ). IsTrue (is_left ms z)) (sym (batch_parts S H n b c same).3) (told c d x y g).left)
        ]
      ])
      (λ e. to a (subst (λ (z : ℕ). Leads S H n t a z) e p.into))
      (λ e. elim (cases_eq b t) [
        | inl x ↦ to a (subst (λ (z : ℕ). Leads S H n t a z) x p.into)
        | inr x ↦ elim (cases_eq a t) [
          | inl y ↦ apart t b (subst (λ (z : ℕ). one_batch S H n z b ≡ true) e (batch_sym S H n b c same)) (subst (λ (z : ℕ). Leads S H n t z b) y p.into).edge
          | inr y ↦ both_ways _ enter (subst (λ (z : ℕ). IsTrue (is_entered ms z)) ((batch_parts S H n b c same).3 ∙ ap (start S H n) e) (told a b y x p.into).entered)
        ]
      ])
      (λ e. to c (subst (λ (z : ℕ). Leads S H n t c z) e g)))

  -- edges lead only to t
  pub none_behind : ((b : ℕ) → Leads S H n t t b → ⊥) → IsFalse (is_left ms (start S H n t)) → ((a : ℕ) → Leads S H n t a t → IsTrue (is_entered ms (start S H n a)) → ⊥) → None
  none_behind from leave entered = along (λ a b c d p.
      let same = p.out.batch in
      let g = p.out.out in
      with_t S H n t l (tree_facts S i) k a b c d p ⊥
      (λ e. from b (subst (λ (z : ℕ). Leads S H n t z b) e p.into))
      (λ e. elim (cases_eq c t) [
        | inl x ↦ from d (subst (λ (z : ℕ). Leads S H n t z d) x g)
        | inr x ↦ elim (cases_eq d t) [
          | inl y ↦ apart c t (subst (λ (z : ℕ). one_batch S H n c z ≡ true) e (batch_sym S H n b c same)) (subst (λ (z : ℕ). Leads S H n t c z) y g).edge
          | inr y ↦ both_ways _ leave (subst (λ (z : ℕ). IsTrue (is_left ms z)) (sym (batch_parts S H n b c same).3 ∙ ap (start S H n) e) (told c d x y g).left)
        ]
      ])
      (λ e. from d (subst (λ (z : ℕ). Leads S H n t z d) e g))
      (λ e. let q = subst (λ (z : ℕ). Leads S H n t c z) e g in
      elim (cases_eq a t) [
        | inl x ↦ from b (subst (λ (z : ℕ). Leads S H n t z b) x p.into)
        | inr x ↦ elim (cases_eq b t) [
          | inl y ↦ apart c t (batch_sym S H n t c (subst (λ (z : ℕ). one_batch S H n z c ≡ true) y same)) q.edge
          | inr y ↦ entered c q (subst (λ (z : ℕ). IsTrue (is_entered ms z)) (batch_parts S H n b c same).3 (told a b x y p.into).entered)
        ]
      ]))
