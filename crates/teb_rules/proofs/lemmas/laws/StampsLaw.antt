-- The law of a timestamp node.
use Rattle.std.proofs.Common.{◌≡◌, ◌≢◌, ◌⊎◌, ℕ, suc, ◌<◌, ◌≤◌, Bool, true, false, eqb, ltb, List, [], ◌∷◌, Option, Some, None}
use Rattle.std.proofs.Common.{refl, sym, ◌∙◌, ap, ap₂, subst, inl, inr, arith, ℤ, length, ltb-true, lt-ltb, le-ltb, eq-eqb, find}
use Rattle.std.proofs.lemmas.Bool.{cases_lt, both_ways, cases_order, cases_eq, and_from, or_cases, or_left, or_right, not_from_false}
use Rattle.teb_rules.specs.declared.names.Txn.{Txn}
use Rattle.teb_rules.specs.declared.names.Cell.{Cell}
use Rattle.teb_rules.specs.declared.history.Event.{Event}
use Rattle.teb_rules.specs.declared.history.Event.TheVariants.{Began, Got, Put, Ready, Done, Gone, Told}
use Rattle.teb_rules.specs.declared.names.ControlKind.{ControlKind}
use Rattle.teb_rules.specs.declared.names.ControlKind.TheVariants.{Timestamp}
use Rattle.teb_rules.specs.history.Accesses.{is_put, put_at}
use Rattle.teb_rules.specs.names.Cells.{same_cell}
use Rattle.teb_rules.specs.history.Phases.{txns, began_at, gone_at, aborted}
use Rattle.teb_rules.specs.history.Positions.{upto, newest}
use Rattle.teb_rules.proofs.lemmas.history.Chains.{length-upto, upto-upto}
use Rattle.teb_rules.specs.laws.Lawful.{Lawful, MayAccess}
use Rattle.teb_rules.specs.laws.TreeFacts.{TreeFacts}
use Rattle.teb_rules.specs.Batches.{start}
use Rattle.teb_rules.specs.Controls.{is_late, has_read_before, on_access}
use Rattle.teb_rules.specs.Setup.{Setup}
use Rattle.teb_rules.specs.Tree.{row, meets}
use Rattle.teb_rules.specs.declared.Verdict.TheVariants.{Go}
use Rattle.teb_rules.specs.Verdicts.{break_for}
use Rattle.teb_rules.specs.Versions.{precedes, sees_by}
use Rattle.teb_rules.proofs.lemmas.laws.Positions.{upto_all, upto_cons}
use Rattle.teb_rules.proofs.lemmas.laws.Timeline.{Lawful-upto, granted_at, begun_there, put_order, begun_counted, on-upto, meets-upto, aborted-upto, put_may}
use Rattle.teb_rules.proofs.lemmas.laws.Locks.{In-txns}
use Rattle.teb_rules.proofs.lemmas.laws.Nodes.{meets_parts, meets_sym}
use Rattle.teb_rules.proofs.lemmas.laws.Ranks.{commits, start-upto}
use Rattle.teb_rules.proofs.lemmas.laws.Serial.{Commits}
use Rattle.teb_rules.proofs.lemmas.laws.ReadRule.{GotAt, from_own, from_seen, from_row, got_case}
use Rattle.teb_rules.proofs.lemmas.laws.VersionOrder.{precedes_row, precedes_irreflexive}
use Rattle.teb_rules.proofs.lemmas.laws.Assembly.{IsOrdered, seen_at}
use Rattle.teb_rules.proofs.lemmas.laws.NodeFacts.{precedes-upto, got_time, read_meets, seen_clash, last_put-stable}
use Rattle.teb_rules.proofs.lemmas.laws.Ranks.{start_rank}
use Rattle.teb_rules.proofs.lemmas.laws.Timeline.{put_granted}
use Rattle.teb_rules.proofs.lemmas.laws.VersionOrder.{orders_start}
use Rattle.teb_rules.proofs.lemmas.laws.Batches.{start_differs}
use Rattle.teb_rules.proofs.lemmas.laws.Assembly.{NodeLaw}
use Rattle.teb_rules.proofs.lemmas.laws.Locks.{find_none}
use Rattle.teb_rules.proofs.lemmas.laws.LocksLaw.{got_not_put}
use Rattle.teb_rules.specs.declared.Broken.{Broken}

-- a Got of t in the history P is what `has_read_before` finds
has_read_at : (S : Setup) (Q : List Event) (P : List Event) (i : ℕ) (t : Txn) (x : Cell) (w : Txn) (v : Option ℤ) (b : ℕ) → i < length P → upto (suc i) P ≡ Got t x w v ∷ upto i P → (w.0 ≡ b)
    ⊎ (precedes S Q x w.0 b ≡ true) → has_read_before S Q P x b t.0 ≡ true
unfolding has_read_before
has_read_at S Q [] i t x w v b h is o = absurd (omega arith)
has_read_at S Q (e ∷ P) i t x w v b h is o = elim (cases_lt i (length P)) [
  | inl r ↦ more e (has_read_at S Q P i t x w v b r (sym (upto_cons (suc i) e P r) ∙ is ∙ ap (λ (R : List Event). Got t x w v ∷ R) (upto_cons i e P (let z : i ≤ length P = omega arith in z))) o)
  | inr r ↦ here e (ap (newest (λ d. is_this d)) (sym (upto_all (suc i) (e ∷ P) (let z : suc (length P) ≤ suc i = omega arith in z)) ∙ is))
]
  where
    is_this : Event → Bool
    is_this d = has_read_before S Q (d ∷ []) x b t.0

    more : (e : Event) → has_read_before S Q P x b t.0 ≡ true → has_read_before S Q (e ∷ P) x b t.0 ≡ true
    more (Got u y z k) q = or_right _ (has_read_before S Q P x b t.0) q
    more (Began u y z inst) q = q
    more (Put u y z) q = q
    more (Ready u) q = q
    more (Done u) q = q
    more (Gone u y) q = q
    more (Told u) q = q

    got_true : has_read_before S Q (Got t x w v ∷ []) x b t.0 ≡ true
    got_true = or_left _ _ (and_from _ _ (and_from (eqb t.0 t.0) (same_cell x x) (eq-eqb t.0 t.0 refl) (and_from _ _ (eq-eqb x.table.0 x.table.0 refl) (eq-eqb x.key x.key refl)))
        (elim o [ inl q ↦ or_left (eqb w.0 b) (precedes S Q x w.0 b) (eq-eqb w.0 b q) | inr q ↦ or_right (eqb w.0 b) (precedes S Q x w.0 b) q ]))

    widen : (e : Event) → has_read_before S Q (e ∷ []) x b t.0 ≡ true → has_read_before S Q (e ∷ P) x b t.0 ≡ true
    widen (Got u y z k) q = elim (or_cases _ _ q) [ inl r ↦ or_left _ (has_read_before S Q P x b t.0) r | inr r ↦ absurd (cc) ]
    widen _ q = absurd (cc)

    here : (e : Event) → newest (λ d. is_this d) (e ∷ P) ≡ newest (λ d. is_this d) (Got t x w v ∷ upto i (e ∷ P)) → has_read_before S Q (e ∷ P) x b t.0 ≡ true
    here e q = widen e (q ∙ got_true)

pub no_break : (k : Option ℕ) (f : ℕ → Broken) → break_for k f ≡ Go → k ≡ None
no_break None f e = refl
no_break (Some u) f e = absurd (cc)

stamps_access : (S : Setup) (Q : List Event) (n b : ℕ) (x : Cell) → on_access Timestamp S Q n b x true ≡ Go → find (is_late S Q n b x) (txns Q) ≡ None
unfolding on_access
stamps_access S Q n b x e = no_break _ _ e

late_from : (S : Setup) (Q : List Event) (n b t : ℕ) (x : Cell) → meets S Q n b t ≡ true → aborted Q t ≡ false → start S Q n b < start S Q n t → has_read_before S Q Q x b t ≡ true
    → is_late S Q n b x t ≡ true
unfolding is_late
late_from S Q n b t x p q r s = and_from _ _ (and_from _ _ (and_from _ _ p (not_from_false _ q)) (lt-ltb _ _ r)) s

-- a write of b after t's Got is late if t's batch starts after b's and t read from b or from a version before b's
late_write : (S : Setup) (a : TreeFacts S) (H : List Event) (i j n : ℕ) (t : Txn) (x : Cell) (w : Txn) (v : Option ℤ) (b : ℕ) → Lawful S H → (row S.tree n).control ≡ Timestamp → GotAt H i t x w v
    → i < j → j ≤ length H → MayAccess S (upto j H) b x true →
    meets S H n b t.0 ≡ true → began_at H t.0 < j → began_at H b < j → j ≤ gone_at H t.0 → start S H n b < start S H n t.0 → (w.0 ≡ b) ⊎ (precedes S (upto j H) x w.0 b ≡ true) → ⊥
late_write S a H i j n t x w v b l c g ij h may m bt bb gt st o =
    let f = subst (λ (k : ControlKind). on_access k S (upto j H) n b x true ≡ Go) c (may.free n (on-upto S H j n b l h bb ∙ (meets_parts S H n b t.0 m).0)) in
    let q = none_late f in
    both_ways _ q (late_from S (upto j H) n b t.0 x (meets-upto S H j n b t.0 l h bb bt ∙ m) (aborted-upto H j t.0 h ∙ le-ltb _ _ gt)
    (rw (start-upto S H j n b l h bb, start-upto S H j n t.0 l h bt) st)
    (has_read_at S (upto j H) (upto j H) i t x w v b (let y = length-upto j H h in let z : i < length (upto j H) = omega arith in z)
    (upto-upto (suc i) j H ij ∙ g.is ∙ ap (λ (R : List Event). Got t x w v ∷ R) (sym (upto-upto i j H (let z : i ≤ j = omega arith in z)))) o))
  where
    none_late : on_access Timestamp S (upto j H) n b x true ≡ Go → is_late S (upto j H) n b x t.0 ≡ false
    none_late e = find_none _ (txns (upto j H)) t.0 (stamps_access S (upto j H) n b x e) (In-txns S (upto j H) t.0 (Lawful-upto S H j l) (begun_there H j t.0 h bt))

sees_stamps : (S : Setup) (P : List Event) (n : ℕ) (x : Cell) (t b : ℕ) → (row S.tree n).control ≡ Timestamp → sees_by (row S.tree n).control S P n x t b ≡ ltb (start S P n b) (start S P n t)
unfolding sees_by
sees_stamps S P n x t b c = rw c refl

stamps_visible : (S : Setup) (H : List Event) (i n t b : ℕ) (x : Cell) → Lawful S H → (row S.tree n).control ≡ Timestamp → i ≤ length H → began_at H t < i → began_at H b < i
    → sees_by (row S.tree n).control S (upto i H) n x t b ≡ ltb (start S H n b) (start S H n t)
stamps_visible S H i n t b x l c h bt bb = sees_stamps S (upto i H) n x t b c ∙ ap₂ (λ (p q : ℕ). ltb p q) (start-upto S H i n b l h bb) (start-upto S H i n t l h bt)

pub stamps_law : (S : Setup) (a : TreeFacts S) (H : List Event) (n : ℕ) → Lawful S H → ((j : ℕ) → IsOrdered S (upto j H)) → (row S.tree n).control ≡ Timestamp → NodeLaw S H n
stamps_law S a H n l ord c = record {
  write_write = λ u w x cu cw m pu pw o.
      let q : start S H n u < start S H n w = ltb-true _ _ (sym (orders_start S H n x u w c) ∙ o) in
      let z = start_rank S H n u c in let y = start_rank S H n w c in omega arith;
  write_read = λ i t x w v g ct cw m.
      let r = read_meets S a H i n t x w v l g ct cw m in
      let q : start S H n w.0 < start S H n t.0 = ltb-true _ _ (sym (stamps_visible S H i n t.0 w.0 x l c r.place r.began r.seen.began) ∙ r.visible) in
      let z = start_rank S H n w.0 c in let y = start_rank S H n t.0 c in omega arith;
  read_write = λ i t x w v b g ne ct cb m pb e.
      let k = got_time S H i t x w v l g ct in
      let h : i ≤ length H = (let z = k.0 in omega arith) in
      let ob = put_order S H b x l pb in
      let dt = commits S H t.0 l ct in
      let mp = meets_parts S H n t.0 b m in
      let z = start_rank S H n t.0 c in let y = start_rank S H n b c in
      let bt : began_at H t.0 < length H = (let f = k.1 in omega arith) in
      let bb : began_at H b < length H = (let f = ob.0 in omega arith) in
      elim (cases_order (start S H n t.0) (start S H n b)) [
        | inl q ↦ absurd (start_differs S H n t.0 b l bt bb mp.0 mp.1 mp.2 q)
        | inr o ↦ elim o [
          | inl q ↦ omega arith
          | inr q ↦ absurd (elim (cases_lt (put_at H b x) i) [
            | inl p ↦ seen_clash S a H i n t x w v b l (ord i) g ne ct cb m p e (stamps_visible S H i n t.0 b x l c h k.1 (let f = ob.0 in omega arith) ∙ lt-ltb _ _ q)
            | inr p ↦ (let f = got_not_put H i t x w v b g pb in
                let ij : i < put_at H b x = omega arith in
                late_write S a H i (put_at H b x) n t x w v b l c g ij (let d : put_at H b x ≤ length H = omega arith in d) (put_granted S H b x l pb) (meets_sym S H n t.0 b m)
                (let d = k.1 in omega arith) ob.0 (let d = dt.1 in omega arith) q (inr (before_put i t x w v b g ct ij (let d : put_at H b x ≤ length H = omega arith in d) ob.0 ne e)))
          ])
        ]
      ];
  stable = λ i t x w v g ct cw m.
      let r = read_meets S a H i n t x w v l g ct cw m in
      let s : start S H n w.0 < start S H n t.0 = ltb-true _ _ (sym (stamps_visible S H i n t.0 w.0 x l c r.place r.began r.seen.began) ∙ r.visible) in
      let dt = commits S H t.0 l ct in
      last_put-stable H i w.0 x r.place (λ j e p q k f. elim (cases_lt i j) [
        | inl ij ↦ late_write S a H i j n t x w v w.0 l c g ij (let d : j ≤ length H = omega arith in d) (put_may S (upto j H) e w.0 x f (granted_at S H j e l k)) (meets_sym S H n t.0 w.0 m)
            (let d = r.began in omega arith) (let d = r.seen.began in omega arith) (let d = dt.1 in omega arith) s (inl refl)
        | inr ij ↦ (let d : i ≡ j = omega arith in both_ways (is_put w.0 x (Got t x w v)) refl (ap (newest (is_put w.0 x)) (sym g.is ∙ ap (λ (z : ℕ). upto (suc z) H) d ∙ k) ∙ f))
      ]);
}
  where
    before_put : (i : ℕ) (t : Txn) (x : Cell) (w : Txn) (v : Option ℤ) (b : ℕ) → GotAt H i t x w v → Commits H t.0 → i < put_at H b x → put_at H b x ≤ length H → began_at H b < put_at H b x
        → w.0 ≢ t.0 → precedes S H x w.0 b ≡ true → precedes S (upto (put_at H b x) H) x w.0 b ≡ true
    before_put i t x w v b g ct ij h bb ne e = elim (got_case S H i t x w v l g).1 [
      | from_own f o ↦ absurd (ne o)
      | from_row f o y ↦ (let p : 0 < b = (begun_counted S H b l (let d : began_at H b < length H = omega arith in d)).0 in
          subst (λ (z : ℕ). precedes S (upto (put_at H b x) H) x z b ≡ true) (sym y) (precedes_row S (upto (put_at H b x) H) x b p))
      | from_seen f o ↦ (let r = seen_at S H i t.0 x w.0 l (let d = g.place in let q : i ≤ length H = omega arith in q) o in
          elim (cases_eq w.0 b) [
            | inl q ↦ absurd (both_ways _ (precedes_irreflexive S H x b) (subst (λ (z : ℕ). precedes S H x z b ≡ true) q e))
            | inr q ↦ precedes-upto S a H (put_at H b x) x w.0 b l h (let d = r.began in omega arith) bb (let d = r.put in omega arith) q ∙ e
          ])
    ]
