-- The law of a pipeline node.
use Rattle.std.proofs.Common.{◌≡◌, ◌⊎◌, ℕ, ◌<◌, ◌≤◌, min, Bool, true, false, cond, not, ◌&&◌, ◌||◌, eqb, List, [], ◌∷◌, Option}
use Rattle.std.proofs.Common.{Some, None, refl, sym, ◌∙◌, ap, subst, inl, inr, arith, length, ltb-true, lt-ltb, le_refl}
use Rattle.std.proofs.lemmas.Bool.{cases_lt, both_ways, and_parts, and_from, and_cases, or_cases, or_left, or_right, not-false}
use Rattle.teb_rules.specs.declared.names.Cell.{Cell}
use Rattle.teb_rules.specs.declared.history.Event.{Event}
use Rattle.teb_rules.specs.declared.history.Event.TheVariants.{Began, Got, Put, Ready, Done, Gone, Told}
use Rattle.teb_rules.specs.declared.names.ControlKind.{ControlKind}
use Rattle.teb_rules.specs.declared.names.ControlKind.TheVariants.{Pipeline}
use Rattle.teb_rules.specs.history.Accesses.{is_put, put_at, got_at, wrote, got}
use Rattle.teb_rules.proofs.lemmas.laws.TableRanks.{stands_from}
use Rattle.teb_rules.specs.history.Phases.{spot_of}
use Rattle.teb_rules.specs.history.Phases.{txns, began_at, done_at, gone_at, committed, aborted, kind_of, ready_at, prepared}
use Rattle.teb_rules.specs.history.Positions.{upto, first, newest, first_event}
use Rattle.teb_rules.proofs.lemmas.history.Chains.{length-upto, upto-upto}
use Rattle.teb_rules.specs.laws.Lawful.{Lawful, MayAccess}
use Rattle.teb_rules.specs.laws.TreeFacts.{TreeFacts}
use Rattle.teb_rules.specs.Accepted.{HasProfiles}
use Rattle.teb_rules.specs.Controls.{blocks, earlier, gate, on_access}
use Rattle.teb_rules.specs.Setup.{Setup, profile}
use Rattle.teb_rules.specs.Steps.{least_step, cursor, passed, rank_of_table, rank_of_step}
use Rattle.teb_rules.specs.Tree.{row, on, meets}
use Rattle.teb_rules.specs.declared.Verdict.TheVariants.{Go}
use Rattle.teb_rules.specs.Versions.{sees_by}
use Rattle.teb_rules.proofs.lemmas.laws.Positions.{before, now, later, first_cases, upto_all, upto_cons}
use Rattle.teb_rules.proofs.lemmas.laws.Timeline.{Lawful-upto, granted_at, unfinished-upto, upto-unfinished, begun_there, put_order}
use Rattle.teb_rules.proofs.lemmas.laws.Timeline.{on-upto, meets-upto, wrote-upto, aborted-upto, committed-upto, put_may}
use Rattle.teb_rules.proofs.lemmas.laws.Locks.{In-txns}
use Rattle.teb_rules.proofs.lemmas.laws.Nodes.{meets_parts, meets_sym}
use Rattle.teb_rules.proofs.lemmas.laws.Ranks.{commits}
use Rattle.teb_rules.proofs.lemmas.laws.Serial.{Commits}
use Rattle.teb_rules.proofs.lemmas.laws.ReadRule.{got_case}
use Rattle.teb_rules.proofs.lemmas.laws.Assembly.{IsOrdered}
use Rattle.teb_rules.proofs.lemmas.laws.NodeFacts.{put-upto, got_time, read_meets, seen_clash, last_put-stable}
use Rattle.teb_rules.proofs.lemmas.laws.Ranks.{done_rank, commit_free}
use Rattle.teb_rules.proofs.lemmas.laws.Timeline.{got-upto}
use Rattle.teb_rules.proofs.lemmas.laws.VersionOrder.{orders_put}
use Rattle.teb_rules.proofs.lemmas.laws.Assembly.{NodeLaw, read_done}
use Rattle.teb_rules.proofs.lemmas.laws.Locks.{find_none, go_none}
use Rattle.std.proofs.Common.{unwrap_or, is_some}
use Rattle.teb_rules.proofs.lemmas.laws.Ranks.{or_else_go}
use Rattle.teb_rules.proofs.lemmas.laws.Nodes.{on-path_of}
use Rattle.teb_rules.proofs.lemmas.names.SameCells.{same_cell-true}
use Rattle.teb_rules.proofs.lemmas.laws.Timeline.{kind-lt, kind-upto}
use Rattle.teb_rules.proofs.lemmas.laws.LocksLaw.{got-le, got_not_put}
use Rattle.teb_rules.proofs.lemmas.laws.Pivots.{prepared_from, ready-upto}
use Rattle.teb_rules.proofs.lemmas.laws.Locks.{blocks_from}
use Rattle.teb_rules.proofs.lemmas.laws.TableRanks.{least_is, rank_of_step-le}

-- cursors never move back
cursor_step : (S : Setup) (e : Event) (P : List Event) (t : ℕ) → cursor S P t ≤ cursor S (e ∷ P) t
unfolding cursor
cursor_step S (Got u x w v) P t = moved (eqb u.0 t) (least_step (profile S (kind_of P t)) (cursor S P t) x.table.0) (λ s q. (least_is (profile S (kind_of P t)) (cursor S P t) x.table.0 s q).0)
  where
    moved : (b : Bool) (o : Option ℕ) → ((s : ℕ) → o ≡ Some s → cursor S P t ≤ s) → cursor S P t ≤ cond b (unwrap_or o (cursor S P t)) (cursor S P t)
    moved true (Some s) f = f s refl
    moved true None f = le_refl _
    moved false o f = le_refl _
cursor_step S (Put u x v) P t = moved (eqb u.0 t) (least_step (profile S (kind_of P t)) (cursor S P t) x.table.0) (λ s q. (least_is (profile S (kind_of P t)) (cursor S P t) x.table.0 s q).0)
  where
    moved : (b : Bool) (o : Option ℕ) → ((s : ℕ) → o ≡ Some s → cursor S P t ≤ s) → cursor S P t ≤ cond b (unwrap_or o (cursor S P t)) (cursor S P t)
    moved true (Some s) f = f s refl
    moved true None f = le_refl _
    moved false o f = le_refl _
cursor_step S (Began u s k inst) P t = le_refl _
cursor_step S (Ready u) P t = le_refl _
cursor_step S (Done u) P t = le_refl _
cursor_step S (Gone u c) P t = le_refl _
cursor_step S (Told u) P t = le_refl _

cursor_mono : (S : Setup) (H : List Event) (i j t : ℕ) → i ≤ j → cursor S (upto i H) t ≤ cursor S (upto j H) t
cursor_mono S [] i j t h = unfold upto in le_refl _
cursor_mono S (e ∷ P) i j t h = elim (cases_lt (length P) j) [
  | inl r ↦ elim (cases_lt (length P) i) [
    | inl q ↦ rw (upto_all i (e ∷ P) q, upto_all j (e ∷ P) r) (le_refl _)
    | inr q ↦ rw (upto_cons i e P q, upto_all j (e ∷ P) r) (let z = cursor_mono S P i (length P) t q in let y = cursor_step S e P t in
        let f = ap (λ (Q : List Event). cursor S Q t) (upto_all (length P) P (le_refl _)) in omega arith)
  ]
  | inr r ↦ rw (upto_cons i e P (let z : i ≤ length P = omega arith in z), upto_cons j e P r) (cursor_mono S P i j t h)
]

earlier_step : (S : Setup) (e : Event) (P : List Event) (n u t : ℕ) → earlier P u t ≡ true → earlier (e ∷ P) u t ≡ true
unfolding earlier
earlier_step S (Got s x w v) P n u t h = or_right _ (earlier P u t) h
earlier_step S (Put s x v) P n u t h = or_right _ (earlier P u t) h
earlier_step S (Began s x k inst) P n u t h = h
earlier_step S (Ready s) P n u t h = h
earlier_step S (Done s) P n u t h = h
earlier_step S (Gone s c) P n u t h = h
earlier_step S (Told s) P n u t h = h

earlier_put : (S : Setup) (e : Event) (P : List Event) (n u t : ℕ) (x : Cell) → is_put t x e ≡ true → (wrote P u x ≡ true) ⊎ (got P u x ≡ true) → earlier (e ∷ P) u t ≡ true
unfolding earlier
earlier_put S (Put s y v) P n u t x h o = let p = and_parts _ _ h in or_left _ (earlier P u t) (and_from _ _ p.0
    (subst (λ (z : Cell). (wrote P u z || got P u z) ≡ true) (sym (same_cell-true y x p.1)) (elim o [ inl q ↦ or_left (wrote P u x) (got P u x) q | inr q ↦ or_right (wrote P u x) (got P u x) q ])))
earlier_put S _ P n u t x h o = absurd (cc)

-- if t's first Put of x follows an access of x by u, u is earlier than t from then on
earlier_at : (S : Setup) (Q : List Event) (n u t : ℕ) (x : Cell) (P : List Event) → put_at P t x < length P → (wrote (upto (put_at P t x) P) u x ≡ true) ⊎ (got (upto (put_at P t x) P) u x ≡ true)
    → earlier P u t ≡ true
unfolding put_at first_event
earlier_at S Q n u t x [] h o = absurd (omega arith)
earlier_at S Q n u t x (e ∷ P) h o = elim (first_cases (newest (is_put t x)) e P) [
  | before a b ↦ earlier_step S e P n u t
      (earlier_at S Q n u t x P a (rw (b, upto_cons (first (newest (is_put t x)) P) e P (let z : first (newest (is_put t x)) P ≤ length P = omega arith in z)) at o))
  | now a b c ↦ earlier_put S e P n u t x b (rw (c, upto_cons (length P) e P (le_refl _), upto_all (length P) P (le_refl _)) at o)
  | later a b c ↦ absurd (omega arith)
]

gate_done : (S : Setup) (H : List Event) (n w u : ℕ) → Lawful S H → (row S.tree n).control ≡ Pipeline → Commits H w → Commits H u → meets S H n w u ≡ true → began_at H u < done_at H w
    → earlier (upto (done_at H w) H) u w ≡ true → done_at H u < done_at H w
unfolding gate
gate_done S H n w u l c cw cu m b e = elim (cases_lt (done_at H u) (done_at H w)) [
  | inl r ↦ r
  | inr r ↦ (let h : done_at H w ≤ length H = omega arith in
      let bw = (commits S H w l cw).0 in
      let f = (commit_free S H n w u l cw (meets_parts S H n w u m).0 b).0 in
      let g : gate Pipeline S (upto (done_at H w) H) n w u ≡ false = subst (λ (k : ControlKind). gate k S (upto (done_at H w) H) n w u ≡ false) c f in
      absurd (both_ways _ g (and_from _ _ (and_from _ _ (upto-unfinished H (done_at H w) u h b r (let z = (commits S H u l cu).1 in let y : done_at H w ≤ gone_at H u = omega arith in y))
      (meets-upto S H (done_at H w) n w u l h bw b ∙ m)) e)))
]

-- a u that accessed x before w's first Put of x is done before w
put_after : (S : Setup) (H : List Event) (n w u : ℕ) (x : Cell) → Lawful S H → (row S.tree n).control ≡ Pipeline → Commits H w → Commits H u → meets S H n w u ≡ true → put_at H w x < length H
    → began_at H u < put_at H w x → (put_at H u x < put_at H w x) ⊎ (got_at H u x < put_at H w x) → done_at H u < done_at H w
put_after S H n w u x l c cw cu m p b o =
    let ow = put_order S H w x l p in
    let j = done_at H w in
    let h : j ≤ length H = omega arith in
    let k = put_at H w x in
    let kj : k ≤ j = (let z = ow.1 in omega arith) in
    let q : put_at (upto j H) w x ≡ k = put-upto H j w x h ∙ (let z : min j k ≡ k = omega arith in z) in
    gate_done S H n w u l c cw cu m (let z : began_at H u < j = omega arith in z)
    (earlier_at S H n u w x (upto j H) (let z = length-upto j H h in let y = ow.1 in omega arith)
    (rw (q, upto-upto k j H kj) (elim o [
      | inl r ↦ inl (wrote-upto H k u x (let z : k ≤ length H = omega arith in z) ∙ lt-ltb _ _ r)
      | inr r ↦ inr (got-upto H k u x (let z : k ≤ length H = omega arith in z) ∙ lt-ltb _ _ r)
    ])))

sees_pipeline : (S : Setup) (P : List Event) (n : ℕ) (x : Cell) (t b : ℕ) → (row S.tree n).control ≡ Pipeline
    → sees_by (row S.tree n).control S P n x t b ≡ (committed P b || passed S P n b (rank_of_table S n x.table.0))
unfolding sees_by
sees_pipeline S P n x t b c = rw c refl

pipeline_access : (S : Setup) (P : List Event) (n t u : ℕ) (x : Cell) (write : Bool) → Lawful S P → on_access Pipeline S P n t x write ≡ Go → began_at P u < length P
    → (blocks S P n t x write u && not (passed S P n u (rank_of_table S n x.table.0))) ≡ false
unfolding on_access
pipeline_access S P n t u x write l h b = find_none (λ u. blocks S P n t x write u && not (passed S P n u (rank_of_table S n x.table.0))) (txns P) u (go_none _ (or_else_go _ _ h).1)
    (In-txns S P u l b)

-- t's Got sees a b that has put x before it
pipeline_seen : (S : Setup) (H : List Event) (i n t b : ℕ) (x : Cell) → Lawful S H → i ≤ length H → MayAccess S (upto i H) t x false → (row S.tree n).control ≡ Pipeline → on S H n t ≡ true
    → meets S H n t b ≡ true → began_at H t < i → began_at H b < i → put_at H b x < i → i ≤ gone_at H b →
    sees_by (row S.tree n).control S (upto i H) n x t b ≡ true
pipeline_seen S H i n t b x l h may c o m bt bb p g = sees_pipeline S (upto i H) n x t b c ∙ elim (cases_lt (done_at H b) i) [
  | inl d ↦ or_left (committed (upto i H) b) _ (committed-upto H i b h ∙ lt-ltb _ _ d)
  | inr d ↦ or_right (committed (upto i H) b) _ (
      let f = subst (λ (k : ControlKind). on_access k S (upto i H) n t x false ≡ Go) c (may.free n (on-upto S H i n t l h bt ∙ o)) in
      elim (and_cases _ _ (pipeline_access S (upto i H) n t b x false (Lawful-upto S H i l) f (begun_there H i b h bb))) [
        | inl q ↦ absurd (both_ways _ q (blocks_from S (upto i H) n t b x false (upto-unfinished H i b h bb d g) (meets-upto S H i n t b l h bt bb ∙ m) (inl (wrote-upto H i b x h ∙ lt-ltb _ _ p))))
        | inr q ↦ not-false _ q
      ])
]

prepared_ready : (H : List Event) (i t : ℕ) → i ≤ length H → prepared (upto i H) t ≡ true → ready_at H t < i
unfolding prepared
prepared_ready H i t h p =
    let q : ready_at (upto i H) t < length (upto i H) = ltb-true _ _ (and_parts _ _ p).1 in
    let z = ready-upto H i t h in let y = length-upto i H h in omega arith

passed_parts : (S : Setup) (P : List Event) (n u r : ℕ) → passed S P n u r ≡ true → (prepared P u ≡ true)
    ⊎ ((committed P u ≡ true) ⊎ ((aborted P u ≡ true) ⊎ (r < rank_of_step S n (kind_of P u) (cursor S P u))))
unfolding passed
passed_parts S P n u r p = elim (or_cases _ _ p) [
  | inr q ↦ inr (inr (inr (ltb-true _ _ q)))
  | inl q ↦ elim (or_cases _ _ q) [
    | inr t ↦ inr (inr (inl t))
    | inl t ↦ elim (or_cases _ _ t) [ inl f ↦ inl f | inr f ↦ inr (inl f) ]
  ]
]

some_is : (o : Option ℕ) → is_some o ≡ true → (s : ℕ) × (o ≡ Some s)
some_is None h = absurd (cc)
some_is (Some s) h = (s, refl)

-- a transaction that has passed the rank of x never puts x again
never_again : (S : Setup) → TreeFacts S → HasProfiles S → (H : List Event) (i j n w : ℕ) (x : Cell) → Lawful S H → i ≤ j → j ≤ length H → MayAccess S (upto j H) w x true → on S H n w ≡ true
    → began_at H w < i → passed S (upto i H) n w (rank_of_table S n x.table.0) ≡ true → ⊥
never_again S a hp H i j n w x l ij h may o b p =
    let hi : i ≤ length H = omega arith in
    let u = unfinished-upto H j w h may.unfinished in
    elim (passed_parts S (upto i H) n w _ p) [
      | inl q ↦ both_ways _ may.unprepared (prepared_from H j w h u.0 u.1 u.2 (let z = prepared_ready H i w hi q in let y : ready_at H w < j = omega arith in y))
      | inr q1 ↦ elim q1 [
        | inl q ↦ (let z : done_at H w < i = ltb-true _ _ (sym (committed-upto H i w hi) ∙ q) in let y = u.1 in omega arith)
        | inr q2 ↦ elim q2 [
          | inl q ↦ (let z : gone_at H w < i = ltb-true _ _ (sym (aborted-upto H i w hi) ∙ q) in let y = u.2 in omega arith)
          | inr q ↦ (let bl : began_at H w < length H = omega arith in
              let ki = kind-upto S H i w l hi b in
              let kj = kind-upto S H j w l h u.0 in
              let r = some_is _ may.step in
              let e : least_step (profile S (kind_of H w)) (cursor S (upto j H) w) x.table.0 ≡ Some r.0 = ap (λ (k : ℕ). least_step (profile S k) (cursor S (upto j H) w) x.table.0) (sym kj) ∙ r.1 in
              let t = least_is (profile S (kind_of H w)) (cursor S (upto j H) w) x.table.0 r.0 e in
              let m = cursor_mono S H i j w ij in
              let z = rank_of_step-le S hp n (kind_of H w) (cursor S (upto i H) w) x.table.0 r.0 (kind-lt S H w l bl) (stands_from S a n (spot_of H w) (kind-lt S H w l bl) (on-path_of S H n w o))
              (let y = t.0 in let f : cursor S (upto i H) w ≤ r.0 = omega arith in f) t.1 t.2 in
              let q3 : rank_of_table S n x.table.0 < rank_of_step S n (kind_of H w) (cursor S (upto i H) w) = subst
              (λ (k : ℕ). rank_of_table S n x.table.0 < rank_of_step S n k (cursor S (upto i H) w)) ki q in
              omega arith)
        ]
      ]
    ]

pub pipeline_law : (S : Setup) (a : TreeFacts S) → HasProfiles S → (H : List Event) (n : ℕ) → Lawful S H → ((j : ℕ) → IsOrdered S (upto j H)) → (row S.tree n).control ≡ Pipeline → NodeLaw S H n
pipeline_law S a hp H n l ord c = record {
  write_write = λ u w x cu cw m pu pw o.
      let q : put_at H u x < put_at H w x = ltb-true _ _ (sym (orders_put S H n x u w (rw c refl)) ∙ o) in
      let ou = put_order S H u x l pu in
      let d = put_after S H n w u x l c cw cu (meets_sym S H n u w m) pw (let z = ou.0 in omega arith) (inl q) in
      let z = done_rank S H n u (inr c) in let y = done_rank S H n w (inr c) in omega arith;
  write_read = λ i t x w v g ct cw m.
      let r = read_meets S a H i n t x w v l g ct cw m in
      let d = read_done S a H i t x w v l g ct r.seen in
      let z = done_rank S H n w.0 (inr c) in let y = done_rank S H n t.0 (inr c) in omega arith;
  read_write = λ i t x w v b g ne ct cb m pb e.
      let k = got_time S H i t x w v l g ct in
      let h : i ≤ length H = (let z = k.0 in omega arith) in
      let ob = put_order S H b x l pb in
      let db = commits S H b l cb in
      let mp = meets_parts S H n t.0 b m in
      let z = done_rank S H n t.0 (inr c) in let y = done_rank S H n b (inr c) in
      elim (cases_lt (put_at H b x) i) [
        | inl p ↦ absurd (seen_clash S a H i n t x w v b l (ord i) g ne ct cb m p e
            (pipeline_seen S H i n t.0 b x l h (got_case S H i t x w v l g).0 c mp.0 m k.1 (let f = ob.0 in omega arith) p (let f = db.1 in omega arith)))
        | inr p ↦ (let q = got_not_put H i t x w v b g pb in let f = k.1 in let s = got-le H i t x w v g in
            let d = put_after S H n b t.0 x l c cb ct (meets_sym S H n t.0 b m) pb (omega arith) (inr (omega arith)) in omega arith)
      ];
  stable = λ i t x w v g ct cw m.
      let r = read_meets S a H i n t x w v l g ct cw m in
      let mp = meets_parts S H n t.0 w.0 m in
      last_put-stable H i w.0 x r.place (λ j e p q z f.
      let may = put_may S (upto j H) e w.0 x f (granted_at S H j e l z) in
      let u = unfinished-upto H j w.0 (let y : j ≤ length H = omega arith in y) may.unfinished in
      elim (or_cases _ _ (sym (sees_pipeline S (upto i H) n x t.0 w.0 c) ∙ r.visible)) [
        | inl d ↦ (let y : done_at H w.0 < i = ltb-true _ _ (sym (committed-upto H i w.0 r.place) ∙ d) in let y2 = u.1 in omega arith)
        | inr d ↦ never_again S a hp H i j n w.0 x l p (let y : j ≤ length H = omega arith in y) may mp.1 r.seen.began d
      ]);
}
