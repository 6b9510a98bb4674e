-- If a transaction ranks before another where they meet, its rank is no greater than the other's at each node above.
use Rattle.std.proofs.Common.{◌≡◌, ◌⊎◌, ℕ, suc, ◌<◌, ◌≤◌, Bool, true, false, cond, ◌&&◌, List, refl, sym, ◌∙◌, subst, inl, inr, arith, length, lt-ltb, le_refl}
use Rattle.std.proofs.lemmas.Bool.{cases_lt, both_ways, cases_order, and_from, or_parts}
use Rattle.teb_rules.specs.declared.history.Event.{Event}
use Rattle.teb_rules.specs.declared.names.ControlKind.{ControlKind}
use Rattle.teb_rules.specs.declared.names.ControlKind.TheVariants.{Locks, Pipeline, Timestamp, Snapshot}
use Rattle.teb_rules.specs.history.Accesses.{read_from}
use Rattle.teb_rules.specs.history.Phases.{is_began, txns, began_at, done_at, gone_at, unfinished}
use Rattle.teb_rules.specs.history.Positions.{upto, first, first_event, newest}
use Rattle.teb_rules.proofs.lemmas.history.Chains.{upto-upto}
use Rattle.teb_rules.specs.laws.Lawful.{Lawful}
use Rattle.teb_rules.specs.laws.TreeFacts.{TreeFacts}
use Rattle.teb_rules.specs.Batches.{idle, start, close, one_batch}
use Rattle.teb_rules.specs.Controls.{gate, validate}
use Rattle.teb_rules.specs.Ranks.{has_edge_out, rank_by, rank}
use Rattle.teb_rules.specs.Setup.{Setup, among}
use Rattle.teb_rules.specs.Stops.{on_commit}
use Rattle.teb_rules.specs.Tree.{row, on, side, meets}
use Rattle.teb_rules.specs.declared.Verdict.{Verdict}
use Rattle.teb_rules.specs.declared.Verdict.TheVariants.{Go, Wait, Break}
use Rattle.teb_rules.specs.Verdicts.{or_else}
use Rattle.teb_rules.proofs.lemmas.laws.Positions.{first-upto}
use Rattle.teb_rules.proofs.lemmas.laws.Timeline.{Lawful-upto, upto-unfinished, on-upto, side-upto, meets-upto, done_order, done_granted, begun_there}
use Rattle.teb_rules.proofs.lemmas.laws.Locks.{In-txns, find_none, go_none}
use Rattle.teb_rules.proofs.lemmas.laws.Batches.{idle_someone}
use Rattle.teb_rules.proofs.lemmas.laws.Intervals.{interval, open_while, apart_or_same, nested}
use Rattle.teb_rules.proofs.lemmas.laws.Nodes.{front_of, above, meets_parts, meets_from, meets_sym, front-less, front-above}

pub start-upto : (S : Setup) (H : List Event) (i n t : ℕ) → Lawful S H → i ≤ length H → began_at H t < i → start S (upto i H) n t ≡ start S H n t
unfolding start began_at first_event
start-upto S H i n t l h b =
    let e : first_event (is_began t) (upto i H) ≡ first_event (is_began t) H = first-upto (newest (is_began t)) i H h ∙ (let z : first (newest (is_began t)) H < i = b in omega arith) in
    rw (e, side-upto S H i n t l h b, upto-upto (suc (first_event (is_began t) H)) i H b) refl

-- batches of one side with the same start have the same close
pub same_close : (S : Setup) (H : List Event) (n t u : ℕ) → Lawful S H → began_at H t < length H → began_at H u < length H → on S H n t ≡ true → on S H n u ≡ true → side S H n t ≡ side S H n u
    → start S H n t ≡ start S H n u →
    close S H n t ≡ close S H n u
same_close S H n t u l bt bu ot ou e q = elim (cases_order (close S H n t) (close S H n u)) [
  | inl c ↦ c
  | inr o ↦ elim o [ inl c ↦ absurd (less t u bt bu ot ou e q c) | inr c ↦ absurd (less u t bu bt ou ot (sym e) (sym q) c) ]
]
  where
    less : (t u : ℕ) → began_at H t < length H → began_at H u < length H → on S H n t ≡ true → on S H n u ≡ true → side S H n t ≡ side S H n u → start S H n t ≡ start S H n u
        → close S H n t < close S H n u → ⊥
    less t u bt bu ot ou e q c =
        let v = interval S H n t l bt ot in
        let w = interval S H n u l bu ou in
        both_ways _ (w.busy (suc (close S H n t)) (let z = v.closes in let y = v.by_began in omega arith) c)
        (subst (λ (z : ℕ). idle S (upto (suc (close S H n t)) H) n z ≡ true) e (v.idle_after (let z = w.within in omega arith)))

-- at a node with batches, a rank lies within the batch and is the same for the whole batch
pub record BatchRank (S : Setup) (H : List Event) (n : ℕ) : Type 0 where
  pub low : (t : ℕ) → began_at H t < length H → on S H n t ≡ true → start S H n t ≤ rank S H n t
  pub high : (t : ℕ) → began_at H t < length H → on S H n t ≡ true → rank S H n t ≤ close S H n t
  pub same : (t u : ℕ) → began_at H t < length H → began_at H u < length H → on S H n t ≡ true → on S H n u ≡ true → side S H n t ≡ side S H n u → start S H n t ≡ start S H n u
      → rank S H n t ≡ rank S H n u

pub timestamp_rank : (S : Setup) (H : List Event) (n : ℕ) → Lawful S H → (row S.tree n).control ≡ Timestamp → BatchRank S H n
unfolding rank rank_by
timestamp_rank S H n l c = record {
  low = λ t b o. rw c (le_refl _);
  high = λ t b o. rw c (let v = interval S H n t l b o in let z = v.by_began in let y = v.closes in let x : start S H n t ≤ close S H n t = omega arith in x);
  same = λ t u bt bu ot ou e q. rw c q;
}

same_edges : (S : Setup) (H : List Event) (n t u : ℕ) → on S H n t ≡ true → on S H n u ≡ true → side S H n t ≡ side S H n u → start S H n t ≡ start S H n u
    → has_edge_out S H n t ≡ has_edge_out S H n u
unfolding has_edge_out one_batch
same_edges S H n t u ot ou e q = simp (ot, ou, e, q)

pub snapshot_rank : (S : Setup) (H : List Event) (n : ℕ) → Lawful S H → (row S.tree n).control ≡ Snapshot → BatchRank S H n
unfolding rank rank_by
snapshot_rank S H n l c = record {
  low = λ t b o. rw c (let v = interval S H n t l b o in let z = v.by_began in let y = v.closes in low (has_edge_out S H n t) (start S H n t) (close S H n t) (omega arith));
  high = λ t b o. rw c (let v = interval S H n t l b o in let z = v.by_began in let y = v.closes in high (has_edge_out S H n t) (start S H n t) (close S H n t) (omega arith));
  same = λ t u bt bu ot ou e q. rw (c, same_edges S H n t u ot ou e q, q, same_close S H n t u l bt bu ot ou e q) refl;
}
  where
    low : (b : Bool) (x y : ℕ) → x ≤ y → x ≤ cond b x y
    low true x y h = le_refl x
    low false x y h = h

    high : (b : Bool) (x y : ℕ) → x ≤ y → cond b x y ≤ y
    high true x y h = h
    high false x y h = le_refl y

pub done_rank : (S : Setup) (H : List Event) (n t : ℕ) → ((row S.tree n).control ≡ Locks) ⊎ ((row S.tree n).control ≡ Pipeline) → rank S H n t ≡ done_at H t
unfolding rank rank_by
done_rank S H n t o = elim o [ inl c ↦ rw c refl | inr c ↦ rw c refl ]

pub start_rank : (S : Setup) (H : List Event) (n t : ℕ) → (row S.tree n).control ≡ Timestamp → rank S H n t ≡ start S H n t
unfolding rank rank_by
start_rank S H n t c = rw c refl

-- a node ranks by commit, by start, or by batch
pub data KindOf (S : Setup) (n : ℕ) : Type 0 where
  by_done : ((row S.tree n).control ≡ Locks) ⊎ ((row S.tree n).control ≡ Pipeline) → KindOf S n
  by_start : (row S.tree n).control ≡ Timestamp → KindOf S n
  by_batch : (row S.tree n).control ≡ Snapshot → KindOf S n

pub kind_node : (S : Setup) (n : ℕ) → KindOf S n
kind_node S n = go (row S.tree n).control refl
  where
    go : (c : ControlKind) → (row S.tree n).control ≡ c → KindOf S n
    go Locks e = by_done (inl e)
    go Pipeline e = by_done (inr e)
    go Timestamp e = by_start e
    go Snapshot e = by_batch e

-- a committed transaction is unfinished up to its Done
pub commits : (S : Setup) (H : List Event) (t : ℕ) → Lawful S H → done_at H t < length H → (began_at H t < done_at H t) × (length H ≤ gone_at H t)
commits S H t l d = done_order S H t l d

pub order_below : (S : Setup) (a : TreeFacts S) (H : List Event) (m n u w : ℕ) → Lawful S H → done_at H u < length H → done_at H w < length H → meets S H m u w ≡ true → among n (front_of S a m) ≡ true
    →
    rank S H m u < rank S H m w → start S H n u < close S H n w
order_below S a H m n u w l du dw e i r =
    let cu = commits S H u l du in
    let cw = commits S H w l dw in
    let p = meets_parts S H m u w e in
    let bu : began_at H u < length H = omega arith in
    let bw : began_at H w < length H = omega arith in
    let au = above S a H m n u w l bu bw p.0 p.1 i in
    let aw = above S a H m n w u l bw bu p.1 p.0 i in
    let v = interval S H n u l bu au.0 in
    let x = open_while S H n w (done_at H w) l aw.0 cw.0 (let z : done_at H w ≤ length H = omega arith in z) (le_refl _) (let z : done_at H w ≤ gone_at H w = omega arith in z) in
    elim (kind_node S m) [
      | by_done c ↦ (let q = done_rank S H m u c in let s = done_rank S H m w c in let z = v.by_began in omega arith)
      | by_start c ↦ (let q = start_rank S H m u c in let s = start_rank S H m w c in
          let ne = nested S H n m u l bu au.0 p.0 (λ t bt ot st. above S a H m n t u l bt bu ot p.0 i) in
          let vm = interval S H m w l bw p.1 in
          let z = vm.by_began in let y = (interval S H n w l bw aw.0).closes in let f = ne.0 in omega arith)
      | by_batch c ↦ (let z = front-less S a m n i in let y = a.snapshots m (rw c refl) in absurd (omega arith))
    ]

pub or_else_go : (v w : Verdict) → or_else v w ≡ Go → (v ≡ Go) × (w ≡ Go)
or_else_go Go w h = (refl, h)
or_else_go (Wait u) w h = absurd (cc)
or_else_go (Break c) w h = absurd (cc)

-- a granted Commit of w implies at node m that the validation passes, and no transaction that the gate waits for, or that w read from, is unfinished
pub commit_free : (S : Setup) (H : List Event) (m w u : ℕ) → Lawful S H → done_at H w < length H → on S H m w ≡ true → began_at H u < done_at H w →
    (gate (row S.tree m).control S (upto (done_at H w) H) m w u ≡ false) × (validate (row S.tree m).control S (upto (done_at H w) H) m w ≡ Go) ×
    ((unfinished (upto (done_at H w) H) u && meets S (upto (done_at H w) H) m w u && read_from (upto (done_at H w) H) w u) ≡ false)
unfolding on_commit
commit_free S H m w u l d o b =
    let i = done_at H w in
    let h : i ≤ length H = omega arith in
    let c = commits S H w l d in
    let g = (done_granted S H w l d).free m (on-upto S H i m w l h c.0 ∙ o) in
    let p = or_else_go _ _ g in
    let f = find_none _ (txns (upto i H)) u (go_none _ p.1) (In-txns S (upto i H) u (Lawful-upto S H i l) (begun_there H i u h b)) in
    let q = or_parts _ _ f in
    (q.0, p.0, q.1)

ordered_gate : (S : Setup) (H : List Event) (m w u : ℕ) → Lawful S H → (row S.tree m).control ≡ Timestamp → (row S.tree m).ordered ≡ true → done_at H w < length H → meets S H m w u ≡ true
    → began_at H u < done_at H w →
    start S H m u < start S H m w → done_at H w ≤ done_at H u → done_at H w ≤ gone_at H u → ⊥
unfolding gate
ordered_gate S H m w u l c o d e b s du gu =
    let i = done_at H w in
    let h : i ≤ length H = omega arith in
    let bw = (commits S H w l d).0 in
    let f = (commit_free S H m w u l d (meets_parts S H m w u e).0 b).0 in
    let g : gate Timestamp S (upto i H) m w u ≡ false = subst (λ (k : ControlKind). gate k S (upto i H) m w u ≡ false) c f in
    both_ways _ g (and_from _ _ (and_from _ _ (and_from _ _ o (upto-unfinished H i u h b du gu)) (meets-upto S H i m w u l h bw b ∙ e))
    (lt-ltb _ _ (rw (start-upto S H i m u l h b, start-upto S H i m w l h bw) s)))

-- at an ordered timestamp node, a transaction that starts before a committed w and is not aborted commits before w, even if it joined its batch late
pub ordered_done : (S : Setup) (a : TreeFacts S) (H : List Event) (m u w : ℕ) → Lawful S H → (row S.tree m).control ≡ Timestamp → (row S.tree m).ordered ≡ true → began_at H u < length H
    → length H ≤ gone_at H u → done_at H w < length H → meets S H m u w ≡ true →
    start S H m u < start S H m w → done_at H u < done_at H w
ordered_done S a H m u w l c o bu gu dw e s = elim (cases_lt (done_at H u) (done_at H w)) [
  | inl r ↦ r
  | inr r ↦ elim (cases_lt (began_at H u) (done_at H w)) [
    | inl b ↦ absurd (ordered_gate S H m w u l c o dw (meets_sym S H m u w e) b s r (let z : done_at H w ≤ gone_at H u = omega arith in z))
    | inr b ↦ absurd (joined b)
  ]
]
  where
    joined : done_at H w ≤ began_at H u → ⊥
    joined b =
        let p = meets_parts S H m u w e in
        let cw = commits S H w l dw in
        let bw : began_at H w < length H = omega arith in
        let v = interval S H m u l bu p.0 in
        let y = interval S H m w l bw p.1 in
        let j : start S H m u < done_at H w = (let z = y.by_began in omega arith) in
        let k : done_at H w ≤ close S H m u = (let z = v.closes in omega arith) in
        let r = idle_someone S H m (side S H m u) (done_at H w) l (let z : done_at H w ≤ length H = omega arith in z) (v.busy (done_at H w) j k) in
        let x = r.works in
        let bx : began_at H r.who < length H = (let z = x.begun in omega arith) in
        let same : start S H m r.who ≡ start S H m u = elim (apart_or_same S H m r.who u l bx bu x.on_node p.0 x.on_side) [
          | inl q ↦ q
          | inr q ↦ elim q [
            | inl t ↦ (let z = open_while S H m r.who (done_at H w) l x.on_node x.begun (let f : done_at H w ≤ length H = omega arith in f) x.undone x.ungone in absurd (omega arith))
            | inr t ↦ (let z = (interval S H m r.who l bx x.on_node).by_began in let f = x.begun in absurd (omega arith))
          ]
        ] in
        ordered_gate S H m w r.who l c o dw (meets_from S H m w r.who p.1 x.on_node (λ q. p.2 (sym x.on_side ∙ sym q))) x.begun (omega arith) x.undone x.ungone

-- if u is before w at m, u's rank is at most w's at each node above m
pub rank_up : (S : Setup) (a : TreeFacts S) (H : List Event) (m n u w : ℕ) → Lawful S H → done_at H u < length H → done_at H w < length H → meets S H m u w ≡ true → among n (front_of S a m) ≡ true →
    rank S H m u < rank S H m w → rank S H n u ≤ rank S H n w
rank_up S a H m n u w l du dw e i r =
    let cu = commits S H u l du in
    let cw = commits S H w l dw in
    let bu : began_at H u < length H = omega arith in
    let bw : began_at H w < length H = omega arith in
    let p = meets_parts S H m u w e in
    let au = above S a H m n u w l bu bw p.0 p.1 i in
    let aw = above S a H m n w u l bw bu p.1 p.0 i in
    let batch : BatchRank S H n → rank S H n u ≤ rank S H n w = λ b.
    elim (apart_or_same S H n u w l bu bw au.0 aw.0 au.1) [
      | inl q ↦ (let z = b.same u w bu bw au.0 aw.0 au.1 q in omega arith)
      | inr o ↦ elim o [
        | inl q ↦ (let z = b.high u bu au.0 in let y = b.low w bw aw.0 in omega arith)
        | inr q ↦ (let z = order_below S a H m n u w l du dw e i r in absurd (omega arith))
      ]
    ] in
    elim (kind_node S n) [
      | by_start c ↦ batch (timestamp_rank S H n l c)
      | by_batch c ↦ batch (snapshot_rank S H n l c)
      | by_done c ↦ (let qu = done_rank S H n u c in let qw = done_rank S H n w c in elim (kind_node S m) [
        | by_done d ↦ (let z = done_rank S H m u d in let y = done_rank S H m w d in omega arith)
        | by_start d ↦ (let z = start_rank S H m u d in let y = start_rank S H m w d in elim c [
          | inl k ↦ (let o = a.timestamps n m (front-above S a m n i) (rw k refl) (rw d refl) in let f = ordered_done S a H m u w l d o bu (let x : length H ≤ gone_at H u = cu.1 in x) dw e
              (omega arith) in omega arith)
          | inr k ↦ absurd (a.pipelines n m (front-above S a m n i) (rw k refl) (rw d refl))
        ])
        | by_batch d ↦ (let z = front-less S a m n i in let y = a.snapshots m (rw d refl) in absurd (omega arith))
      ])
    ]
