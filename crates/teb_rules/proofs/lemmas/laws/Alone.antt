-- A transaction that runs alone is never stopped.
use Rattle.std.proofs.Common.{◌≡◌, ◌≢◌, ◌⊎◌, ℕ, ◌<◌, ◌≤◌, Bool, true, false, cond, not, ◌&&◌, ◌||◌, eqb, ltb, leb, List, [], ◌∷◌}
use Rattle.std.proofs.Common.{length, Option, Some, None, refl, sym, ◌∙◌, ap, subst, inl, inr, arith, find, is_none, ℤ, ◌+ℤ◌}
use Rattle.teb_rules.specs.declared.history.Event.{Event}
use Rattle.teb_rules.specs.declared.history.Event.TheVariants.{Ready}
use Rattle.teb_rules.specs.declared.names.TheConstants.{MOST_TXNS, SESSIONS}
use Rattle.teb_rules.specs.declared.names.ControlKind.{ControlKind}
use Rattle.teb_rules.specs.declared.names.ControlKind.TheVariants.{Locks, Pipeline, Timestamp, Snapshot}
use Rattle.teb_rules.specs.declared.Broken.{Broken}
use Rattle.teb_rules.specs.declared.Broken.TheVariants.{Late, First}
use Rattle.teb_rules.specs.declared.names.Request.{Request}
use Rattle.teb_rules.specs.declared.names.Request.TheVariants.{Begin, Read, Write, Add, Delete, Scan, Prepare, Commit, Abort, End}
use Rattle.teb_rules.specs.declared.names.Reply.TheVariants.{Refused}
use Rattle.teb_rules.specs.declared.names.Reply.TheVariants.{Prepared as IsReady}
use Rattle.teb_rules.specs.declared.names.Refusal.TheVariants.{UnknownType, Full, BadSession, UnknownTable, NotInProfile, Range, Overflow}
use Rattle.teb_rules.specs.declared.names.Refusal.TheVariants.{Prepared as IsPrepared}
use Rattle.std.proofs.Common.{eqb-true, le-ltb, ltb-false, ltb-true}
use Rattle.std.proofs.lemmas.Bool.{and_parts, both_ways, cases_eq, cases_lt, not-true, or_cases}
use Rattle.teb_rules.specs.history.Accesses.{read_from, wrote}
use Rattle.teb_rules.specs.history.Phases.{aborted, began_at, begun_count, committed, done_at, gone_at, held, kind_of, prepared, txns, unfinished}
use Rattle.teb_rules.specs.history.Positions.{upto}
use Rattle.teb_rules.proofs.lemmas.laws.Batches.{idle_from}
use Rattle.teb_rules.proofs.lemmas.laws.Cascades.{txns-began, unfinished_times}
use Rattle.teb_rules.proofs.lemmas.laws.Intervals.{interval}
use Rattle.teb_rules.proofs.lemmas.laws.Locks.{In-txns}
use Rattle.teb_rules.proofs.lemmas.laws.Nodes.{meets_parts}
use Rattle.teb_rules.proofs.lemmas.laws.Pivots.{edge_parts, no_pivot, find_has, edges_from, quads_from}
use Rattle.teb_rules.proofs.lemmas.laws.ReadRule.{find_some, list_all_at}
use Rattle.teb_rules.proofs.lemmas.laws.Serial.{commits_from, filter-In}
use Rattle.teb_rules.proofs.lemmas.laws.Timeline.{Lawful-upto, begun_there, upto-unfinished}
use Rattle.teb_rules.proofs.lemmas.laws.Waits.{InWay, access_way, begin_running, commit_way}
use Rattle.teb_rules.specs.laws.Lawful.{Lawful}
use Rattle.teb_rules.specs.laws.TreeFacts.{TreeFacts}
use Rattle.teb_rules.specs.declared.names.Cell.{Cell}
use Rattle.teb_rules.specs.declared.names.Refusal.{Refusal}
use Rattle.teb_rules.specs.declared.names.Session.{Session}
use Rattle.teb_rules.specs.declared.names.Spot.{Spot}
use Rattle.teb_rules.specs.Alone.{is_alone, is_quiet, is_served}
use Rattle.teb_rules.specs.Answer.{Answered, added, answer, answer_new, answer_of, begin_or_wait, cells_from, fits, is_scan, or_refused, or_stop, put_value, refuse, scan_values}
use Rattle.teb_rules.specs.Batches.{close, idle, one_batch, start}
use Rattle.teb_rules.specs.Cascade.{txn}
use Rattle.teb_rules.specs.Controls.{at_stake, blocks, edge, edges, entry_blocks, gate, is_first, is_late, on_access, pivot_break, quads, validate}
use Rattle.teb_rules.specs.Serializes.{In}
use Rattle.teb_rules.specs.Setup.{Store, Setup, profile}
use Rattle.teb_rules.specs.Steps.{cursor, least_step, passed, rank_of_table}
use Rattle.teb_rules.specs.Stops.{access_stop, begin_stop, commit_stop, on_commit, prepare_stop, scan_stop, stop_of}
use Rattle.teb_rules.specs.Tree.{meets, on, row, side}
use Rattle.teb_rules.specs.declared.Verdict.{Verdict}
use Rattle.teb_rules.specs.declared.Verdict.TheVariants.{Break, Go, Wait}
use Rattle.teb_rules.specs.declared.Stop.{Stop}
use Rattle.teb_rules.specs.declared.Stop.TheVariants.{Break as Breaks, Go as Free, Wait as Waits}
use Rattle.teb_rules.specs.Verdicts.{break_for, or_else, wait_for}
use Rattle.teb_rules.proofs.lemmas.laws.Waits.{node}

-- every other transaction began before t and was finished when t began
pub record StandsAlone (H : List Event) (t : ℕ) : Type 0 where
  pub began : began_at H t < length H
  pub undone : length H ≤ done_at H t
  pub ungone : length H ≤ gone_at H t
  pub before : (u : ℕ) → began_at H u < length H → u ≢ t → began_at H u < began_at H t
  pub finished : (u : ℕ) → began_at H u < length H → u ≢ t → (done_at H u < began_at H t) ⊎ (gone_at H u < began_at H t)

stands_alone : (S : Setup) (H : List Event) (t : ℕ) → Lawful S H → unfinished H t ≡ true → is_alone H t ≡ true → StandsAlone H t
unfolding is_alone is_quiet
stands_alone S H t l u h =
    let p = and_parts _ _ h in
    let q = unfinished_times H t u in
    let i : began_at H t ≤ length H = (let z = q.0 in omega arith) in
    let before : (v : ℕ) → began_at H v < length H → v ≢ t → began_at H v < began_at H t = (λ v b ne.
    elim (or_cases (eqb v t) _ (list_all_at (λ u. eqb u t || ltb (began_at H u) (began_at H t)) (txns H) v p.1 (In-txns S H v l b))) [ inl e ↦ absurd (ne (eqb-true v t e)) | inr e ↦ ltb-true _ _ e ])
    in
    record {
      began = q.0;
      undone = q.1;
      ungone = q.2;
      before = before;
      finished = λ v b ne. let c = before v b ne in
          let n = list_all_at (λ u. not (unfinished (upto (began_at H t) H) u)) (txns (upto (began_at H t) H)) v p.0
          (In-txns S (upto (began_at H t) H) v (Lawful-upto S H (began_at H t) l) (begun_there H (began_at H t) v i c)) in
          elim (cases_lt (done_at H v) (began_at H t)) [
            | inl d ↦ inl d
            | inr d ↦ elim (cases_lt (gone_at H v) (began_at H t)) [
              | inl g ↦ inr g
              | inr g ↦ absurd (both_ways _ (not-true _ n) (upto-unfinished H (began_at H t) v i c d g))
            ]
          ];
    }

nobody_else : (S : Setup) (H : List Event) (t u : ℕ) → Lawful S H → StandsAlone H t → unfinished H u ≡ true → u ≢ t → ⊥
nobody_else S H t u l a w ne = let q = unfinished_times H u w in let b = a.began in let q1 = q.1 in let q2 = q.2 in elim (a.finished u q.0 ne) [ inl d ↦ omega arith | inr d ↦ omega arith ]

no_way : (S : Setup) (H : List Event) (n t u : ℕ) → Lawful S H → StandsAlone H t → InWay S H n t u → ⊥
no_way S H n t u l a w = nobody_else S H t u l a w.0 (λ e. (meets_parts S H n t u w.1).2 (ap (side S H n) (sym e)))

-- before t began every side was idle
all_idle : (S : Setup) (H : List Event) (n s t : ℕ) → Lawful S H → StandsAlone H t → idle S (upto (began_at H t) H) n s ≡ true
all_idle S H n s t l a = idle_from S H n s (began_at H t) l (let z = a.began in omega arith) (λ u w. elim (cases_eq u t) [
  | inl e ↦ (let z = w.begun in let y = ap (began_at H) e in omega arith)
  | inr ne ↦ (let b = w.begun in let x = a.began in let y1 = w.undone in let y2 = w.ungone in elim (a.finished u (omega arith) ne) [ inl d ↦ omega arith | inr d ↦ omega arith ])
])

own_start : (S : Setup) (H : List Event) (n t : ℕ) → Lawful S H → StandsAlone H t → on S H n t ≡ true → start S H n t ≡ began_at H t
own_start S H n t l a o =
    let v = interval S H n t l a.began o in let b = v.by_began in let c = v.closes in
    elim (cases_lt (start S H n t) (began_at H t)) [
      | inl r ↦ absurd (both_ways _ (v.busy (began_at H t) r (omega arith)) (all_idle S H n (side S H n t) t l a))
      | inr r ↦ omega arith
    ]

closed_before : (S : Setup) (H : List Event) (n t u : ℕ) → Lawful S H → StandsAlone H t → on S H n u ≡ true → began_at H u < length H → u ≢ t → close S H n u < began_at H t
closed_before S H n t u l a o b ne =
    let v = interval S H n u l b o in let s = v.by_began in let c = a.before u b ne in
    elim (cases_lt (close S H n u) (began_at H t)) [
      | inl r ↦ r
      | inr r ↦ absurd (both_ways _ (v.busy (began_at H t) (omega arith) r) (all_idle S H n (side S H n u) t l a))
    ]

-- the transaction that a break names passes the test
break_is : (p : ℕ → Bool) (us : List ℕ) (f : ℕ → Broken) (c : Broken) → break_for (find p us) f ≡ Break c → (u : ℕ) × In u us × (p u ≡ true)
break_is p us f c h = go (find p us) refl h
  where
    go : (o : Option ℕ) → find p us ≡ o → break_for o f ≡ Break c → (u : ℕ) × In u us × (p u ≡ true)
    go None e h = absurd (cc)
    go (Some u) e h = let r = find_some p us u e in (u, r.0, r.1)

wait_breaks : (o : Option ℕ) (c : Broken) → wait_for o ≡ Break c → ⊥
wait_breaks None c h = cc
wait_breaks (Some u) c h = cc

or_else_break : (v w : Verdict) (c : Broken) → or_else v w ≡ Break c → (v ≡ Break c) ⊎ (w ≡ Break c)
or_else_break Go w c h = inr h
or_else_break (Wait v) w c h = absurd (cc)
or_else_break (Break b) w c h = inl h

late_meets : (S : Setup) (H : List Event) (n t : ℕ) (x : Cell) (u : ℕ) → is_late S H n t x u ≡ true → (meets S H n t u ≡ true) × (start S H n t < start S H n u)
unfolding is_late
late_meets S H n t x u h = let p = and_parts _ _ (and_parts _ _ h).0 in ((and_parts _ _ p.0).0, ltb-true _ _ p.1)

first_meets : (S : Setup) (H : List Event) (n t : ℕ) (x : Cell) (u : ℕ) → is_first S H n t x u ≡ true → (meets S H n t u ≡ true) × (start S H n t ≤ close S H n u)
unfolding is_first
first_meets S H n t x u h = let p = and_parts _ _ h in ((and_parts _ _ (and_parts _ _ p.0).0).0, ltb-false _ _ (not-true _ p.1))

no_late : (S : Setup) (H : List Event) (n t u : ℕ) (x : Cell) → Lawful S H → StandsAlone H t → began_at H u < length H → is_late S H n t x u ≡ true → ⊥
no_late S H n t u x l a b h =
    let m = late_meets S H n t x u h in let k = meets_parts S H n t u m.0 in
    let ne : u ≢ t = (λ e. k.2 (ap (side S H n) (sym e))) in
    let s = own_start S H n t l a k.0 in let v = (interval S H n u l b k.1).by_began in let c = a.before u b ne in let m1 = m.1 in omega arith

no_first : (S : Setup) (H : List Event) (n t u : ℕ) (x : Cell) → Lawful S H → StandsAlone H t → began_at H u < length H → is_first S H n t x u ≡ true → ⊥
no_first S H n t u x l a b h =
    let m = first_meets S H n t x u h in let k = meets_parts S H n t u m.0 in
    let ne : u ≢ t = (λ e. k.2 (ap (side S H n) (sym e))) in
    let s = own_start S H n t l a k.0 in let c = closed_before S H n t u l a k.1 b ne in let m1 = m.1 in omega arith

access_breaks : (c : ControlKind) (S : Setup) (H : List Event) (n t : ℕ) (x : Cell) (write : Bool) (b : Broken) → Lawful S H → StandsAlone H t → on_access c S H n t x write ≡ Break b → ⊥
unfolding on_access
access_breaks Locks S H n t x write b l a h = wait_breaks (find (blocks S H n t x write) (txns H)) b h
access_breaks Pipeline S H n t x write b l a h =
    let p : ℕ → Bool = entry_blocks S H n t x in
    let q : ℕ → Bool = λ u. blocks S H n t x write u && not (passed S H n u (rank_of_table S n x.table.0)) in
    elim (or_else_break (wait_for (find p (txns H))) (wait_for (find q (txns H))) b h) [ inl e ↦ wait_breaks (find p (txns H)) b e | inr e ↦ wait_breaks (find q (txns H)) b e ]
access_breaks Timestamp S H n t x false b l a h = cc
access_breaks Timestamp S H n t x true b l a h = let r = break_is (is_late S H n t x) (txns H) (λ u. Late (record { 0 = u }) x) b h in no_late S H n t r.0 x l a (txns-began S H r.0 l r.1) r.2
access_breaks Snapshot S H n t x false b l a h = cc
access_breaks Snapshot S H n t x true b l a h =
    let p : ℕ → Bool = λ u. unfinished H u && meets S H n t u && wrote H u x in
    let f : ℕ → Broken = λ u. First (record { 0 = u }) x in
    elim (or_else_break (break_for (find (is_first S H n t x) (txns H)) f) (wait_for (find p (txns H))) b h) [
      | inl e ↦ (let r = break_is (is_first S H n t x) (txns H) f b e in no_first S H n t r.0 x l a (txns-began S H r.0 l r.1) r.2)
      | inr e ↦ wait_breaks (find p (txns H)) b e
    ]

-- a verdict that is neither a wait nor a break
go_if : (v : Verdict) → ((u : ℕ) → v ≡ Wait (txn u) → ⊥) → ((c : Broken) → v ≡ Break c → ⊥) → v ≡ Go
go_if Go f g = refl
go_if (Wait u) f g = absurd (f u.0 refl)
go_if (Break c) f g = absurd (g c refl)

access_goes : (S : Setup) (H : List Event) (n t : ℕ) (x : Cell) (write : Bool) → Lawful S H → StandsAlone H t → on_access (row S.tree n).control S H n t x write ≡ Go
access_goes S H n t x write l a = go_if _ (λ u e. no_way S H n t u l a (access_way (row S.tree n).control S H n t x write u e)) (λ b e. access_breaks (row S.tree n).control S H n t x write b l a e)

-- if t is alone, every other transaction at stake is committed
stake_committed : (S : Setup) (H : List Event) (t u : ℕ) → Lawful S H → StandsAlone H t → In u (at_stake H t) → u ≢ t → committed H u ≡ true
unfolding at_stake prepared
stake_committed S H t u l a i ne = elim (or_cases _ _ (filter-In (λ u. eqb u t || prepared H u || committed H u) u (txns H) i).1) [
  | inr c ↦ c
  | inl o ↦ elim (or_cases _ _ o) [ inl e ↦ absurd (ne (eqb-true u t e)) | inr p ↦ absurd (nobody_else S H t u l a (and_parts _ _ p).0 ne) ]
]

no_edge : (S : Setup) (H : List Event) (n t u v : ℕ) → Lawful S H → StandsAlone H t → began_at H u < length H → began_at H v < length H → edge S H n u v ≡ true → (u ≢ t) × (v ≢ t)
no_edge S H n t u v l a bu bv h =
    let p = edge_parts S H n u v h in
    let k = meets_parts S H n u v p.0 in
    let p1 = p.1 in let p2 = p.2 in (
      (λ e. let nv : v ≢ t = (λ f. k.2 (ap (side S H n) (e ∙ sym f))) in
          let s : start S H n u ≡ began_at H t = ap (start S H n) e ∙ own_start S H n t l a (subst (λ (z : ℕ). on S H n z ≡ true) e k.0) in
          let c = closed_before S H n t v l a k.1 bv nv in omega arith),
      (λ e. let nu : u ≢ t = (λ f. k.2 (ap (side S H n) (f ∙ sym e))) in
          let s : start S H n v ≡ began_at H t = ap (start S H n) e ∙ own_start S H n t l a (subst (λ (z : ℕ). on S H n z ≡ true) e k.1) in
          let c = closed_before S H n t u l a k.0 bu nu in omega arith),
    )

stake_began : (S : Setup) (H : List Event) (t u : ℕ) → Lawful S H → In u (at_stake H t) → began_at H u < length H
unfolding at_stake
stake_began S H t u l i = txns-began S H u l (filter-In (λ u. eqb u t || prepared H u || committed H u) u (txns H) i).0

pivot_none : (S : Setup) (tf : TreeFacts S) (H : List Event) (n t : ℕ) → Lawful S H → StandsAlone H t → (row S.tree n).control ≡ Snapshot → (q : (ℕ × ℕ) × (ℕ × ℕ))
    → find (λ q. one_batch S H n q.0.1 q.1.0) (quads (edges S H n (at_stake H t))) ≡ Some q → ⊥
pivot_none S tf H n t l a c q h =
    let es = edges S H n (at_stake H t) in
    let f = find_has (λ (q : (ℕ × ℕ) × (ℕ × ℕ)). one_batch S H n q.0.1 q.1.0) (quads es) q h in
    let hs = quads_from es q f.0 in
    let e0 = edges_from S H n (at_stake H t) q.0 hs.0 in
    let e1 = edges_from S H n (at_stake H t) q.1 hs.1 in
    let n0 = no_edge S H n t q.0.0 q.0.1 l a (stake_began S H t q.0.0 l e0.0) (stake_began S H t q.0.1 l e0.1) e0.2 in
    let n1 = no_edge S H n t q.1.0 q.1.1 l a (stake_began S H t q.1.0 l e1.0) (stake_began S H t q.1.1 l e1.1) e1.2 in
    no_pivot S tf H n q.0.0 q.0.1 q.1.0 q.1.1 l c
    (commits_from H q.0.0 (stake_committed S H t q.0.0 l a e0.0 n0.0)) (commits_from H q.0.1 (stake_committed S H t q.0.1 l a e0.1 n0.1))
    (commits_from H q.1.0 (stake_committed S H t q.1.0 l a e1.0 n1.0)) (commits_from H q.1.1 (stake_committed S H t q.1.1 l a e1.1 n1.1)) e0.2 e1.2 f.1

pivot_go : (o : Option ((ℕ × ℕ) × (ℕ × ℕ))) → ((q : (ℕ × ℕ) × (ℕ × ℕ)) → o ≡ Some q → ⊥) → pivot_break o ≡ Go
pivot_go None f = refl
pivot_go (Some q) f = absurd (f q refl)

validate_goes : (S : Setup) (tf : TreeFacts S) (H : List Event) (n t : ℕ) (c : ControlKind) → Lawful S H → StandsAlone H t → (row S.tree n).control ≡ c → validate c S H n t ≡ Go
unfolding validate
validate_goes S tf H n t Snapshot l a e = pivot_go _ (pivot_none S tf H n t l a e)
validate_goes S tf H n t Locks l a e = refl
validate_goes S tf H n t Pipeline l a e = refl
validate_goes S tf H n t Timestamp l a e = refl

commit_breaks : (S : Setup) (tf : TreeFacts S) (H : List Event) (n t : ℕ) (b : Broken) → Lawful S H → StandsAlone H t → on_commit S H t n ≡ Break b → ⊥
unfolding on_commit
commit_breaks S tf H n t b l a h =
    let p : ℕ → Bool = λ u. gate (row S.tree n).control S H n t u || (unfinished H u && meets S H n t u && read_from H t u) in
    elim (or_else_break (validate (row S.tree n).control S H n t) (wait_for (find p (txns H))) b h) [
      | inl e ↦ (let z : Go ≡ Break b = sym (validate_goes S tf H n t (row S.tree n).control l a refl) ∙ e in cc)
      | inr e ↦ wait_breaks (find p (txns H)) b e
    ]

commit_goes : (S : Setup) (tf : TreeFacts S) (H : List Event) (n t : ℕ) → Lawful S H → StandsAlone H t → on_commit S H t n ≡ Go
commit_goes S tf H n t l a = go_if _ (λ u e. no_way S H n t u l a (commit_way S H t n u e)) (λ b e. commit_breaks S tf H n t b l a e)

all_free : (f : ℕ → Verdict) (ns : List ℕ) → ((n : ℕ) → f n ≡ Go) → stop_of f ns ≡ Free
unfolding stop_of
all_free f [] g = refl
all_free f (n ∷ ns) g = rw (g n) (all_free f ns g)

pub access_free : (S : Setup) (H : List Event) (t : ℕ) (x : Cell) (write : Bool) → Lawful S H → StandsAlone H t → access_stop S H t x write ≡ Free
unfolding access_stop
access_free S H t x write l a = (all_free _ _ (λ n. access_goes S H n t x write l a))

pub scan_is_free : (S : Setup) (H : List Event) (t : ℕ) (xs : List Cell) → Lawful S H → StandsAlone H t → scan_stop S H t xs ≡ Free
unfolding scan_stop
scan_is_free S H t [] l a = refl
scan_is_free S H t (x ∷ xs) l a = rw (access_free S H t x false l a) (scan_is_free S H t xs l a)

pub prepare_free : (S : Setup) (tf : TreeFacts S) (H : List Event) (t : ℕ) → Lawful S H → StandsAlone H t → prepare_stop S H t ≡ Free
unfolding prepare_stop
prepare_free S tf H t l a = (all_free _ _ (λ n. validate_goes S tf H n t (row S.tree n).control l a refl))

pub commit_free_alone : (S : Setup) (tf : TreeFacts S) (H : List Event) (t : ℕ) → Lawful S H → StandsAlone H t → commit_stop S H t ≡ Free
unfolding commit_stop
commit_free_alone S tf H t l a = (all_free _ _ (λ n. commit_goes S tf H n t l a))

cond_served : (r : Request) (b : Bool) (x y : Answered) → is_served r x.0 ≡ true → is_served r y.0 ≡ true → is_served r (cond b x y).0 ≡ true
cond_served r true x y f g = f
cond_served r false x y f g = g

-- a request that may be refused
abbrev MayRefuse : Request → Type 0
MayRefuse r = (w : Refusal) → is_served r (Refused w) ≡ true

refused_served : (X : Store) (H : List Event) (t : ℕ) (x : Cell) (r : Request) (granted : Answered) → MayRefuse r → is_served r granted.0 ≡ true → is_served r (or_refused X H t x granted).0 ≡ true
refused_served X H t x r granted f g =
    let inner = cond (is_none (least_step (profile X.setup (kind_of H t)) (cursor X.setup H t) x.table.0)) (refuse H NotInProfile) granted in
    cond_served r (not (ltb x.table.0 X.tables)) (refuse H UnknownTable) (cond (prepared H t) (refuse H IsPrepared) inner) (f UnknownTable)
    (cond_served r (prepared H t) (refuse H IsPrepared) inner (f IsPrepared)
    (cond_served r (is_none (least_step (profile X.setup (kind_of H t)) (cursor X.setup H t) x.table.0)) (refuse H NotInProfile) granted (f NotInProfile) g))

free_served : (H : List Event) (t : ℕ) (r : Request) (s : Stop) (granted : Answered) → s ≡ Free → is_served r granted.0 ≡ true → is_served r (or_stop H t s granted).0 ≡ true
free_served H t r Free granted e g = g
free_served H t r (Waits u n) granted e g = absurd (cc)
free_served H t r (Breaks n b) granted e g = absurd (cc)

added_served : (S : Setup) (H : List Event) (t : ℕ) (x : Cell) (v : ℤ) (o : Option ℤ) → access_stop S H t x true ≡ Free → is_served (Add x v) (added S H t x v o).0 ≡ true
added_served S H t x v None e = refl
added_served S H t x v (Some b) e = cond_served (Add x v) (fits (b +ℤ v)) (put_value S H t x (Some (b +ℤ v))) (refuse H Overflow) (free_served H t (Add x v) (access_stop S H t x true) _ e refl) refl

of_served : (X : Store) (tf : TreeFacts X.setup) (H : List Event) (t : ℕ) (r : Request) → Lawful X.setup H → StandsAlone H t → is_served r (answer_of X H t r).0 ≡ true
unfolding answer_of
of_served X tf H t (Begin s) l a = refl
of_served X tf H t (Read x) l a = refused_served X H t x (Read x) _ (λ w. refl) (free_served H t (Read x) (access_stop X.setup H t x false) _ (access_free X.setup H t x false l a) refl)
of_served X tf H t (Write x v) l a = refused_served X H t x (Write x v) _ (λ w. refl) (free_served H t (Write x v) (access_stop X.setup H t x true) _ (access_free X.setup H t x true l a) refl)
of_served X tf H t (Add x v) l a = refused_served X H t x (Add x v) _ (λ w. refl) (added_served X.setup H t x v _ (access_free X.setup H t x true l a))
of_served X tf H t (Delete x) l a = refused_served X H t x (Delete x) _ (λ w. refl) (free_served H t (Delete x) (access_stop X.setup H t x true) _ (access_free X.setup H t x true l a) refl)
of_served X tf H t (Scan x n) l a = refused_served X H t x (Scan x n) _ (λ w. refl) (cond_served (Scan x n) (is_scan x n) (scan_values X H t x n) (refuse H Range)
    (free_served H t (Scan x n) (scan_stop X.setup H t (cells_from x n)) _ (scan_is_free X.setup H t (cells_from x n) l a) refl) refl)
of_served X tf H t Prepare l a = cond_served Prepare (prepared H t) (refuse H IsPrepared) (or_stop H t (prepare_stop X.setup H t) (IsReady, Ready (txn t) ∷ H)) refl
    (free_served H t Prepare (prepare_stop X.setup H t) _ (prepare_free X.setup tf H t l a) refl)
of_served X tf H t Commit l a = free_served H t Commit (commit_stop X.setup H t) _ (commit_free_alone X.setup tf H t l a) refl
of_served X tf H t Abort l a = refl
of_served X tf H t End l a = refl

gone_not : (H : List Event) (t : ℕ) → length H ≤ gone_at H t → aborted H t ≡ false
unfolding aborted
gone_not H t g = le-ltb _ _ g

pub alone_served : (X : Store) (tf : TreeFacts X.setup) (H : List Event) (s : Session) (t : ℕ) (r : Request) → Lawful X.setup H → (leb 1 s.0 && leb s.0 SESSIONS) ≡ true → held H s.0 ≡ Some t
    → unfinished H t ≡ true → is_alone H t ≡ true → is_served r (answer X H s r).0 ≡ true
unfolding answer
alone_served X tf H s t r l b h u a =
    let w = unfinished_times H t u in
    let z : aborted H t ≡ false = gone_not H t w.2 in
    rw (b, h, z) (of_served X tf H t r l (stands_alone X.setup H t l u a))

begin_begun : (H : List Event) (s : Session) (k : Spot) (o : Stop) → ((u n : ℕ) → o ≡ Waits (txn u) (node n) → ⊥) → is_served (Begin k) (begin_or_wait H s k o).0 ≡ true
begin_begun H s k (Waits u n) f = absurd (f u.0 n.0 refl)
begin_begun H s k Free f = refl
begin_begun H s k (Breaks n b) f = refl

pub quiet_begins : (X : Store) (H : List Event) (s : Session) (k : Spot) → Lawful X.setup H → held H s.0 ≡ None → is_quiet H ≡ true → is_served (Begin k) (answer X H s (Begin k)).0 ≡ true
unfolding answer answer_new is_quiet
quiet_begins X H s k l h q =
    let inner = begin_or_wait H s k (begin_stop X.setup H k) in
    rw h (cond_served (Begin k) (leb 1 s.0 && leb s.0 SESSIONS) (cond (not (ltb k.kind.0 X.setup.types)) (refuse H UnknownType) (cond (leb MOST_TXNS (begun_count H)) (refuse H Full) inner))
    (refuse H BadSession)
    (cond_served (Begin k) (not (ltb k.kind.0 X.setup.types)) (refuse H UnknownType) (cond (leb MOST_TXNS (begun_count H)) (refuse H Full) inner) refl
    (cond_served (Begin k) (leb MOST_TXNS (begun_count H)) (refuse H Full) inner refl
    (begin_begun H s k (begin_stop X.setup H k) (λ u n e. let r = begin_running X.setup H k u n e in
    both_ways _ (not-true _ (list_all_at (λ u. not (unfinished H u)) (txns H) u q (In-txns X.setup H u l (unfinished_times H u r).0))) r)))) refl)
