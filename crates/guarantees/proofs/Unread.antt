-- If every node is a locks or a snapshot node, no transaction reads from an uncommitted one; so an abort has no cascade.
use Rattle.std.proofs.Common.{◌≡◌, ◌≢◌, ℕ, zero, suc, ◌<◌, Bool, true, false, ◌||◌, List, [], ◌∷◌, length, filter, refl}
use Rattle.std.proofs.Common.{sym, ◌∙◌, ap, subst, inl, inr, arith, le_refl, ltb-true, ltb-false, lt-ltb, eqb-true}
use Rattle.std.proofs.lemmas.Bool.{and_parts, or_cases, or_right, cases_lt, false_from_ne_true, not-true, eqb-false}
use Rattle.std.specs.List.{list_any}
use Rattle.teb_rules.specs.declared.names.Cell.{Cell}
use Rattle.teb_rules.specs.declared.names.ControlKind.{ControlKind}
use Rattle.teb_rules.specs.declared.names.ControlKind.TheVariants.{Locks, Pipeline, Timestamp, Snapshot}
use Rattle.teb_rules.specs.declared.history.Event.{Event}
use Rattle.teb_rules.specs.declared.history.Event.TheVariants.{Began, Got, Put, Ready, Done, Gone, Told}
use Rattle.teb_rules.specs.history.Phases.{is_done, began_at, begun_count, committed, aborted, done_at, txns, unfinished}
use Rattle.teb_rules.specs.history.Accesses.{is_from, read_from}
use Rattle.teb_rules.proofs.lemmas.history.Newest.{committed-cons}
use Rattle.std.proofs.lemmas.List.{get_or_past}
use Rattle.teb_rules.specs.Setup.{NodeRow, Setup}
use Rattle.teb_rules.specs.Tree.{no_row, is_locks, is_snapshot, on, row}
use Rattle.teb_rules.specs.Batches.{close, start}
use Rattle.teb_rules.specs.Versions.{sees, sees_by, source}
use Rattle.teb_rules.specs.Cascade.{cascade, fallen}
use Rattle.teb_rules.specs.laws.Lawful.{Granted, Lawful}
use Rattle.teb_rules.specs.laws.TreeFacts.{TreeFacts}
use Rattle.teb_rules.proofs.lemmas.laws.Cascades.{fallen_step, falls, falls_parts, txns-began, unfinished_times}
use Rattle.teb_rules.proofs.lemmas.laws.Intervals.{interval, open_while}
use Rattle.teb_rules.proofs.lemmas.laws.Meeting.{meets_exists}
use Rattle.teb_rules.proofs.lemmas.laws.Nodes.{meet_is, meets_parts}
use Rattle.teb_rules.proofs.lemmas.laws.ReadRule.{from_own, from_row, from_seen, latest-some, read_case, sees_parts}
use Rattle.teb_rules.proofs.lemmas.laws.Serial.{filter-In}
use Rattle.teb_rules.proofs.lemmas.laws.Timeline.{begun_counted}
use Rattle.guarantees.specs.Shapes.{HidesUncommitted}

-- if the batch of w closed before that of t started, w is committed or aborted
closed_committed : (S : Setup) (P : List Event) (n t w : ℕ) → Lawful S P → on S P n t ≡ true → on S P n w ≡ true → began_at P t < length P → began_at P w < length P → aborted P w ≡ false
    → close S P n w < start S P n t → committed P w ≡ true
unfolding aborted committed
closed_committed S P n t w l ot ow bt bw a h = elim (cases_lt (done_at P w) (length P)) [
  | inl d ↦ lt-ltb _ _ d
  | inr d ↦ absurd (let g = ltb-false _ _ a in let o = open_while S P n w (length P) l ow bw (le_refl _) d g in let s = (interval S P n t l bt ot).by_began in omega arith)
]

-- the writer of a version that is seen at such a node is committed
seen_committed : (S : Setup) (c : ControlKind) (P : List Event) (n : ℕ) (x : Cell) (t w : ℕ) → Lawful S P → is_locks c || is_snapshot c ≡ true → on S P n t ≡ true → on S P n w ≡ true
    → began_at P t < length P → began_at P w < length P → aborted P w ≡ false →
    sees_by c S P n x t w ≡ true → committed P w ≡ true
unfolding sees_by
seen_committed S Locks P n x t w l k ot ow bt bw a h = h
seen_committed S Pipeline P n x t w l k ot ow bt bw a h = absurd (cc)
seen_committed S Timestamp P n x t w l k ot ow bt bw a h = absurd (cc)
seen_committed S Snapshot P n x t w l k ot ow bt bw a h = closed_committed S P n t w l ot ow bt bw a (ltb-true _ _ h)

-- every transaction that is read from is committed
abbrev pub ReadsCommitted : List Event → Type 0
ReadsCommitted H = (u w : ℕ) → read_from H u w ≡ true → 0 < w → committed H w ≡ true

hides : (S : Setup) → HidesUncommitted S → (n : ℕ) → is_locks (row S.tree n).control || is_snapshot (row S.tree n).control ≡ true
hides S h n = elim (cases_lt n (length S.tree)) [
  | inl l ↦ h n l
  | inr l ↦ ap (λ (r : NodeRow). is_locks r.control || is_snapshot r.control) (get_or_past S.tree n no_row l)
]

-- the writer of a version that is seen is committed
seen_done : (S : Setup) (a : TreeFacts S) (P : List Event) (x : Cell) (t w : ℕ) → Lawful S P → HidesUncommitted S → began_at P t < length P → began_at P w < length P → sees S P x t w ≡ true
    → committed P w ≡ true
seen_done S a P x t w l h bt bw s =
    let p = sees_parts S P x t w s in
    let m = meets_exists S a P t w l bt bw (λ e. p.0 (sym e)) in
    let q = meets_parts S P m.node t w m.meet in
    seen_committed S (row S.tree m.node).control P m.node x t w l (hides S h m.node) q.0 q.1 bt bw p.2
    (subst (λ (n : ℕ). sees_by (row S.tree n).control S P n x t w ≡ true) (meet_is S a P m.node t w l bt bw m.meet) p.3)

-- a transaction from which another one reads is committed
got_committed : (S : Setup) (a : TreeFacts S) (P : List Event) (t w : ℕ) (x : Cell) → Lawful S P → HidesUncommitted S → began_at P t < length P → source S P t x ≡ w → w ≢ t → 0 < w
    → committed P w ≡ true
got_committed S a P t w x l h bt e ne pos = elim (read_case S P t x w e) [
  | from_own f o ↦ absurd (ne o)
  | from_row f o z ↦ absurd (omega arith)
  | from_seen f o ↦ (let i = filter-In (sees S P x t) w (txns P) (latest-some S P x _ w o).0 in seen_done S a P x t w l h bt (txns-began S P w l i.0) i.1)
]

got_from : (S : Setup) (a : TreeFacts S) (e : Event) (P : List Event) (u w : ℕ) → Lawful S P → HidesUncommitted S → Granted S P e → is_from u w e ≡ true → 0 < w → committed P w ≡ true
got_from S a (Got s y v z) P u w l h g f pos =
    let p = and_parts _ _ f in
    let q = and_parts _ _ p.0 in
    let su : s.0 ≡ u = eqb-true s.0 u q.0 in
    let vw : v.0 ≡ w = eqb-true v.0 w q.1 in
    let ne = eqb-false u w (not-true _ p.1) in
    subst (λ (k : ℕ). committed P k ≡ true) vw (got_committed S a P s.0 v.0 y l h (unfinished_times P s.0 g.0.unfinished).0 g.1 (λ e. ne (sym su ∙ sym e ∙ vw)) (omega arith))
got_from S a (Began t s k i) P u w l h g f pos = absurd (cc)
got_from S a (Put t x v) P u w l h g f pos = absurd (cc)
got_from S a (Ready t) P u w l h g f pos = absurd (cc)
got_from S a (Done t) P u w l h g f pos = absurd (cc)
got_from S a (Gone t c) P u w l h g f pos = absurd (cc)
got_from S a (Told t) P u w l h g f pos = absurd (cc)

pub reads_committed : (S : Setup) (a : TreeFacts S) (H : List Event) → Lawful S H → HidesUncommitted S → ReadsCommitted H
unfolding Lawful read_from
reads_committed S a [] l h u w r pos = absurd (cc)
reads_committed S a (e ∷ P) l h u w r pos = committed-cons e P w ∙ or_right (is_done w e) (committed P w) (elim (or_cases (is_from u w e) (list_any (is_from u w) P) r) [
  | inl q ↦ got_from S a e P u w l.1 h l.0 q pos
  | inr q ↦ reads_committed S a P l.1 h u w q pos
])

filter_none : (p : ℕ → Bool) (us : List ℕ) → ((u : ℕ) → p u ≡ false) → filter p us ≡ []
filter_none p [] f = refl
filter_none p (u ∷ us) f = rw (f u) (filter_none p us f)

not_unfinished : (H : List Event) (t : ℕ) → committed H t ≡ true → unfinished H t ≡ true → ⊥
unfolding committed
not_unfinished H t c u = let d = ltb-true _ _ c in let z = (unfinished_times H t u).1 in omega arith

-- so the cascade of an unfinished transaction is empty
pub no_cascade : (S : Setup) (H : List Event) (t : ℕ) → Lawful S H → ReadsCommitted H → unfinished H t ≡ true → cascade H t ≡ []
unfolding cascade
no_cascade S H t l r u = none (begun_count H)
  where
    nobody : (v : ℕ) → falls H t [] v ≡ false
    nobody v = false_from_ne_true _ (λ f. elim (or_cases (read_from H v t) false (falls_parts H t [] v f).2) [
      | inl q ↦ not_unfinished H t (r v t q (begun_counted S H t l (unfinished_times H t u).0).0) u
      | inr q ↦ absurd (cc)
    ])

    none : (d : ℕ) → fallen H t d [] ≡ []
    none zero = unfold fallen in refl
    none (suc d) = fallen_step H t d [] ∙ ap (fallen H t d) (filter_none (falls H t []) (txns H) nobody) ∙ none d
