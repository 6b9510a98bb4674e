-- The order of versions is transitive in every lawful history over an accepted tree.
use Rattle.std.proofs.Common.{◌≡◌, ◌≢◌, ℕ, ◌<◌, ◌≤◌, true, false, List, refl, sym, ◌∙◌, ap, subst, subst₂, inl, inr, arith, length, ltb-true, lt-ltb}
use Rattle.std.proofs.lemmas.Bool.{cases_Bool, both_ways, cases_order, cases_eq}
use Rattle.teb_rules.specs.declared.names.Cell.{Cell}
use Rattle.teb_rules.specs.declared.history.Event.{Event}
use Rattle.teb_rules.specs.declared.names.ControlKind.{ControlKind}
use Rattle.teb_rules.specs.declared.names.ControlKind.TheVariants.{Locks, Pipeline, Timestamp, Snapshot}
use Rattle.teb_rules.specs.history.Accesses.{put_at}
use Rattle.teb_rules.specs.history.Phases.{spot_of}
use Rattle.teb_rules.specs.history.Phases.{began_at, done_at, gone_at}
use Rattle.teb_rules.specs.laws.Lawful.{Lawful}
use Rattle.teb_rules.specs.laws.TreeFacts.{TreeFacts}
use Rattle.teb_rules.specs.Batches.{start, close}
use Rattle.teb_rules.specs.Setup.{Setup, among}
use Rattle.teb_rules.specs.Tree.{row, on, side, meets, is_timestamp}
use Rattle.teb_rules.specs.Versions.{orders, precedes}
use Rattle.teb_rules.proofs.lemmas.laws.Nodes.{meets_parts, meets_from, meets_sym}
use Rattle.teb_rules.proofs.lemmas.laws.Meeting.{meets_exists}
use Rattle.teb_rules.proofs.lemmas.laws.VersionOrder.{precedes_at, precedes_irreflexive}
use Rattle.teb_rules.proofs.lemmas.laws.Assembly.{IsOrdered}
use Rattle.teb_rules.proofs.lemmas.laws.Intervals.{interval, open_while, apart_or_same}
use Rattle.teb_rules.proofs.lemmas.laws.Timeline.{put_granted}
use Rattle.teb_rules.proofs.lemmas.laws.VersionOrder.{orders_start, orders_put}
use Rattle.teb_rules.proofs.lemmas.laws.Intervals.{nested}
use Rattle.teb_rules.proofs.lemmas.laws.Nodes.{meets_once, front_of, above, comparable, on-path_of, front-above}
use Rattle.teb_rules.proofs.lemmas.laws.Ranks.{ordered_done, same_close}
use Rattle.teb_rules.proofs.lemmas.laws.Timeline.{kind-lt}
use Rattle.teb_rules.proofs.lemmas.laws.VersionOrder.{timestamp_is, orders_total}
use Rattle.teb_rules.proofs.lemmas.laws.Batches.{start_differs}
use Rattle.teb_rules.proofs.lemmas.laws.Locks.{locks_access}
use Rattle.teb_rules.proofs.lemmas.laws.SnapshotWrites.{snapshot_write}
use Rattle.teb_rules.specs.Tree.{below}
use Rattle.teb_rules.proofs.lemmas.laws.VersionOrder.{Writer, Writer-began, writer_of, writer_order, writers_differ}

-- u's version is before w's at m, by positions
pub data Before (S : Setup) (H : List Event) (m : ℕ) (x : Cell) (u w : ℕ) : Type 0 where
  by_start : (row S.tree m).control ≡ Timestamp → start S H m u < start S H m w → Before S H m x u w
  by_put : is_timestamp (row S.tree m).control ≡ false → put_at H u x < put_at H w x → Before S H m x u w

before_from : (S : Setup) (H : List Event) (m : ℕ) (x : Cell) (u w : ℕ) → orders S H m x u w ≡ true → Before S H m x u w
before_from S H m x u w o = elim (cases_Bool (is_timestamp (row S.tree m).control)) [
  | inl t ↦ (let c = timestamp_is _ t in by_start c (ltb-true _ _ (sym (orders_start S H m x u w c) ∙ o)))
  | inr f ↦ by_put f (ltb-true _ _ (sym (orders_put S H m x u w f) ∙ o))
]

from_before : (S : Setup) (H : List Event) (m : ℕ) (x : Cell) (u w : ℕ) → Before S H m x u w → orders S H m x u w ≡ true
from_before S H m x u w b = elim b [ by_start c s ↦ orders_start S H m x u w c ∙ lt-ltb _ _ s | by_put f p ↦ orders_put S H m x u w f ∙ lt-ltb _ _ p ]

-- of two versions of one side of n, ordered at m below n, the batch of the later one at n is not closed before that of the earlier one starts
below_order : (S : Setup) (a : TreeFacts S) (H : List Event) (m n : ℕ) (x : Cell) (who u w : ℕ) → Lawful S H → Writer H x who u → Writer H x who w → meets S H m u w ≡ true → on S H n u ≡ true
    → on S H n w ≡ true →
    ((t : ℕ) → began_at H t < length H → on S H m t ≡ true → side S H m t ≡ side S H m u → (on S H n t ≡ true) × (side S H n t ≡ side S H n u)) → Before S H m x u w → start S H n u < close S H n w
below_order S a H m n x who u w l pu pw e ou ow below b =
    let qu = writer_order H x who u pu in
    let qw = writer_order H x who w pw in
    let bu : began_at H u < length H = Writer-began H x who u pu in
    let bw : began_at H w < length H = Writer-began H x who w pw in
    let v = interval S H n u l bu ou in
    let y = interval S H n w l bw ow in
    let k = meets_parts S H m u w e in
    elim b [
      | by_start c s ↦ (let ne = (nested S H n m u l bu ou k.0 below).0 in let f = (interval S H m w l bw k.1).by_began in let d = y.closes in omega arith)
      | by_put f p ↦ (let o = open_while S H n w (put_at H w x) l ow qw.0 (pw.place) (qw.1) (qw.2) in
          let d = v.by_began in let g = qu.0 in omega arith)
    ]

-- if a writer of another side puts between two writers of one side of n, which is not a timestamp node, a timestamp node m below n orders the two by their first Puts
between : (S : Setup) (a : TreeFacts S) (H : List Event) (m n : ℕ) (x : Cell) (who u v w : ℕ) → Lawful S H → Writer H x who u → Writer H x who v → Writer H x who w → meets S H m u w ≡ true
    → among n (front_of S a m) ≡ true → meets S H n u v ≡ true →
    is_timestamp (row S.tree n).control ≡ false → (row S.tree m).control ≡ Timestamp → put_at H u x < put_at H v x → put_at H v x < put_at H w x → start S H m u < start S H m w
between S a H m n x who u v w l pu pv pw e i mv f c p q = elim (cases_order (start S H m u) (start S H m w)) [
  | inl d ↦ absurd (start_differs S H m u w l bu bw k.0 k.1 k.2 d)
  | inr o ↦ elim o [ inl d ↦ d | inr d ↦ absurd (go (row S.tree n).control refl d) ]
]
  where
    bu : began_at H u < length H
    bu = Writer-began H x who u pu

    bw : began_at H w < length H
    bw = Writer-began H x who w pw

    bv : began_at H v < length H
    bv = Writer-began H x who v pv

    k : (on S H m u ≡ true) × (on S H m w ≡ true) × (side S H m u ≢ side S H m w)
    k = meets_parts S H m u w e

    au : (on S H n u ≡ true) × (side S H n u ≡ side S H n w)
    au = above S a H m n u w l bu bw k.0 k.1 i

    aw : (on S H n w ≡ true) × (side S H n w ≡ side S H n u)
    aw = above S a H m n w u l bw bu k.1 k.0 i

    qu : (began_at H u < put_at H u x) × (put_at H u x ≤ done_at H u) × (put_at H u x ≤ gone_at H u)
    qu = writer_order H x who u pu

    qv : (began_at H v < put_at H v x) × (put_at H v x ≤ done_at H v) × (put_at H v x ≤ gone_at H v)
    qv = writer_order H x who v pv

    qw : (began_at H w < put_at H w x) × (put_at H w x ≤ done_at H w) × (put_at H w x ≤ gone_at H w)
    qw = writer_order H x who w pw

    hv : put_at H v x ≤ length H
    hv = pv.place

    gone_u : put_at H v x ≤ gone_at H u
    gone_u = let z = pu.stands in let y = pv.place in omega arith

    early_u : began_at H u < put_at H v x
    early_u = let z = qu.0 in omega arith

    go : (o : ControlKind) → (row S.tree n).control ≡ o → start S H m w < start S H m u → ⊥
    go Timestamp r d = absurd (let z : true ≡ false = sym (ap is_timestamp r) ∙ f in cc)
    go Pipeline r d = a.pipelines n m (front-above S a m n i) (rw r refl) (rw c refl)
    go Locks r d =
        let o = a.timestamps n m (front-above S a m n i) (rw r refl) (rw c refl) in
        elim (locks_access S H (put_at H v x) n v u x true l hv (put_granted S H v x l (let z = pw.place in omega arith)) r (meets_parts S H n u v mv).1 (meets_sym S H n u v mv) qv.0
        early_u (inl p)) [
          | inl t ↦ (let z = ordered_done S a H m w u l c o bw pw.stands (let y : done_at H u < length H = omega arith in y) (meets_sym S H m u w e) d in let y = qw.1 in omega arith)
          | inr t ↦ (let z = gone_u in omega arith)
        ]
    go Snapshot r d =
        let s = snapshot_write S H (put_at H v x) n v u x l hv (put_granted S H v x l (let z = pw.place in omega arith)) r (meets_sym S H n u v mv) qv.0 early_u p gone_u in
        let iv = interval S H n v l bv (meets_parts S H n u v mv).1 in
        let iu = interval S H n u l bu au.0 in
        let iw = interval S H n w l bw aw.0 in
        let ow = open_while S H n w (put_at H w x) l aw.0 qw.0 (pw.place) (qw.1) (qw.2) in
        let z1 = s.1 in let z2 = iv.by_began in let z3 = qv.0 in
        elim (apart_or_same S H n u w l bu bw au.0 aw.0 au.1) [
          | inl t ↦ (let y = same_close S H n u w l bu bw au.0 aw.0 au.1 t in omega arith)
          | inr t ↦ elim t [
            | inl t2 ↦ (let nw = (nested S H n m w l bw aw.0 k.1 (λ b bb ob sb. above S a H m n b w l bb bw ob k.1 i)).0 in
                let im = interval S H m u l bu k.0 in let y1 = im.by_began in let y2 = iu.closes in omega arith)
            | inr t2 ↦ (let y = iu.by_began in let y2 = qu.0 in omega arith)
          ]
        ]

not_both : (S : Setup) (H : List Event) (n : ℕ) (x : Cell) (u w : ℕ) → Before S H n x u w → Before S H n x w u → ⊥
not_both S H n x u w p q = elim p [
  | by_start c s ↦ elim q [ by_start d r ↦ omega arith | by_put f r ↦ (let z : true ≡ false = sym (ap is_timestamp c) ∙ f in cc) ]
  | by_put f r ↦ elim q [ by_start c s ↦ (let z : true ≡ false = sym (ap is_timestamp c) ∙ f in cc) | by_put d s ↦ omega arith ]
]

-- at one node, the order of versions is transitive
along : (S : Setup) (H : List Event) (n : ℕ) (x : Cell) (u v w : ℕ) → Before S H n x u v → Before S H n x v w → Before S H n x u w
along S H n x u v w p q = elim p [
  | by_start c s ↦ elim q [ by_start d r ↦ by_start c (omega arith) | by_put f r ↦ absurd (let z : true ≡ false = sym (ap is_timestamp c) ∙ f in cc) ]
  | by_put f r ↦ elim q [ by_start c s ↦ absurd (let z : true ≡ false = sym (ap is_timestamp c) ∙ f in cc) | by_put d s ↦ by_put f (omega arith) ]
]

-- if u and w are of one side of n, and v of another side is between them at n, u is before w below n
case_below : (S : Setup) (a : TreeFacts S) (H : List Event) (m n : ℕ) (x : Cell) (who u v w : ℕ) → Lawful S H → Writer H x who u → Writer H x who v → Writer H x who w → u ≢ w → meets S H m u w ≡ true
    → among n (front_of S a m) ≡ true → meets S H n u v ≡ true →
    Before S H n x u v → Before S H n x v w → Before S H m x u w
case_below S a H m n x who u v w l pu pv pw ne e i mv p q =
    let bu = Writer-began H x who u pu in
    let bw = Writer-began H x who w pw in
    let k = meets_parts S H m u w e in
    let au = above S a H m n u w l bu bw k.0 k.1 i in
    let aw = above S a H m n w u l bw bu k.1 k.0 i in
    elim p [
      | by_start c s ↦ elim q [
        | by_put f r ↦ absurd (let z : true ≡ false = sym (ap is_timestamp c) ∙ f in cc)
        | by_start d r ↦ elim (orders_total S H m x who u w l pu pw ne e) [
          | inl o ↦ before_from S H m x u w o
          | inr o ↦ absurd (let z = below_order S a H m n x who w u l pw pu (meets_sym S H m u w e) aw.0 au.0 (λ b bb ob sb. above S a H m n b w l bb bw ob k.1 i) (before_from S H m x w u o) in
              let iu = interval S H n u l bu au.0 in let iw = interval S H n w l bw aw.0 in let y1 = iw.by_began in let y2 = iw.closes in
              elim (apart_or_same S H n u w l bu bw au.0 aw.0 au.1) [
                | inl t ↦ omega arith
                | inr t ↦ elim t [ inl t2 ↦ omega arith | inr t2 ↦ omega arith ]
              ])
        ]
      ]
      | by_put f r ↦ elim q [
        | by_start c s ↦ absurd (let z : true ≡ false = sym (ap is_timestamp c) ∙ f in cc)
        | by_put d s ↦ elim (cases_Bool (is_timestamp (row S.tree m).control)) [
          | inl t ↦ (let c = timestamp_is _ t in by_start c (between S a H m n x who u v w l pu pv pw e i mv f c r s))
          | inr g ↦ by_put g (omega arith)
        ]
      ]
    ]

-- the case that v and w are of one side of n, ordered below n, and u of another side is before v at n
case_after : (S : Setup) (a : TreeFacts S) (H : List Event) (m n : ℕ) (x : Cell) (who u v w : ℕ) → Lawful S H → Writer H x who u → Writer H x who v → Writer H x who w → u ≢ w → meets S H m v w ≡ true
    → among n (front_of S a m) ≡ true → meets S H n w u ≡ true →
    Before S H n x u v → Before S H m x v w → Before S H n x u w
case_after S a H m n x who u v w l pu pv pw ne e i mu p q =
    let bv = Writer-began H x who v pv in
    let bw = Writer-began H x who w pw in
    let k = meets_parts S H m v w e in
    let av = above S a H m n v w l bv bw k.0 k.1 i in
    let aw = above S a H m n w v l bw bv k.1 k.0 i in
    elim p [
      | by_start c s ↦ (let z = below_order S a H m n x who v w l pv pw e av.0 aw.0 (λ b bb ob sb. above S a H m n b v l bb bv ob k.0 i) q in
          let iv = interval S H n v l bv av.0 in let y1 = iv.by_began in let y2 = iv.closes in
          elim (apart_or_same S H n v w l bv bw av.0 aw.0 av.1) [
            | inl t ↦ by_start c (omega arith)
            | inr t ↦ elim t [ inl t2 ↦ by_start c (omega arith) | inr t2 ↦ absurd (omega arith) ]
          ])
      | by_put f r ↦ by_put f (elim q [
        | by_put d s ↦ omega arith
        | by_start c s ↦ (let d = writers_differ H x who u w pu pw ne in elim (cases_order (put_at H u x) (put_at H w x)) [
          | inl t ↦ absurd (d t)
          | inr o ↦ elim o [
            | inl t ↦ t
            | inr t ↦ absurd (let z = between S a H m n x who w u v l pw pu pv (meets_sym S H m v w e) i mu f c t r in omega arith)
          ]
        ])
      ])
    ]

-- the case that u and v are of one side of n, ordered below n, and w of another side is after v at n
case_before : (S : Setup) (a : TreeFacts S) (H : List Event) (m n : ℕ) (x : Cell) (who u v w : ℕ) → Lawful S H → Writer H x who u → Writer H x who v → Writer H x who w → u ≢ w → meets S H m u v ≡ true
    → among n (front_of S a m) ≡ true → meets S H n v w ≡ true →
    Before S H m x u v → Before S H n x v w → Before S H n x u w
case_before S a H m n x who u v w l pu pv pw ne e i mw p q =
    let bu = Writer-began H x who u pu in
    let bv = Writer-began H x who v pv in
    let k = meets_parts S H m u v e in
    let au = above S a H m n u v l bu bv k.0 k.1 i in
    let av = above S a H m n v u l bv bu k.1 k.0 i in
    elim q [
      | by_start c s ↦ (let z = below_order S a H m n x who u v l pu pv e au.0 av.0 (λ b bb ob sb. above S a H m n b u l bb bu ob k.0 i) p in
          let iu = interval S H n u l bu au.0 in let y1 = iu.by_began in let y2 = iu.closes in
          elim (apart_or_same S H n u v l bu bv au.0 av.0 au.1) [
            | inl t ↦ by_start c (omega arith)
            | inr t ↦ elim t [ inl t2 ↦ by_start c (omega arith) | inr t2 ↦ absurd (omega arith) ]
          ])
      | by_put f r ↦ by_put f (elim p [
        | by_put d s ↦ omega arith
        | by_start c s ↦ (let d = writers_differ H x who u w pu pw ne in elim (cases_order (put_at H u x) (put_at H w x)) [
          | inl t ↦ absurd (d t)
          | inr o ↦ elim o [
            | inl t ↦ t
            | inr t ↦ absurd (let z = between S a H m n x who v w u l pv pw pu (meets_sym S H m u v e) i mw f c r t in omega arith)
          ]
        ])
      ])
    ]

-- the order of versions is transitive on the writers of a cell and a transaction that is about to put it
pub writers_ordered : (S : Setup) (a : TreeFacts S) (H : List Event) → Lawful S H → (x : Cell) (who u v w : ℕ) → Writer H x who u → Writer H x who v → Writer H x who w → precedes S H x u v ≡ true
    → precedes S H x v w ≡ true → precedes S H x u w ≡ true
writers_ordered S a H l x who u v w pu pv pw p q = elim (cases_eq u v) [
  | inl e ↦ absurd (both_ways _ (precedes_irreflexive S H x v) (subst (λ (z : ℕ). precedes S H x z v ≡ true) e p))
  | inr uv ↦ elim (cases_eq v w) [
    | inl e ↦ absurd (both_ways _ (precedes_irreflexive S H x w) (subst (λ (z : ℕ). precedes S H x z w ≡ true) e q))
    | inr vw ↦ (let m1 = meets_exists S a H u v l bu bv uv in
        let m2 = meets_exists S a H v w l bv bw vw in
        let p1 = before_from S H m1.node x u v (sym (precedes_at S a H m1.node x u v l bu bv m1.meet) ∙ p) in
        let q2 = before_from S H m2.node x v w (sym (precedes_at S a H m2.node x v w l bv bw m2.meet) ∙ q) in
        let k1 = meets_parts S H m1.node u v m1.meet in
        let k2 = meets_parts S H m2.node v w m2.meet in
        elim (cases_eq u w) [
          | inl e ↦ absurd (same_ends e m1.node m2.node m1.meet m2.meet p1 q2)
          | inr uw ↦ elim (comparable S a (spot_of H v) m1.node m2.node (kind-lt S H v l bv) (on-path_of S H m1.node v k1.1) (on-path_of S H m2.node v k2.0)) [
            | inl e ↦ one_node uw m1.node m1.meet (subst (λ (z : ℕ). meets S H z v w ≡ true) (sym e) m2.meet) p1 (subst (λ (z : ℕ). Before S H z x v w) (sym e) q2)
            | inr o ↦ elim o [
              | inl i ↦ (let av = above S a H m2.node m1.node v w l bv bw k2.0 k2.1 i in
                  let aw = above S a H m2.node m1.node w v l bw bv k2.1 k2.0 i in
                  let mw = meets_from S H m1.node w u aw.0 k1.0 (λ z. k1.2 (sym z ∙ aw.1)) in
                  precedes_at S a H m1.node x u w l bu bw (meets_sym S H m1.node w u mw)
                  ∙ from_before S H m1.node x u w (case_after S a H m2.node m1.node x who u v w l pu pv pw uw m2.meet i mw p1 q2))
              | inr i ↦ (let au = above S a H m1.node m2.node u v l bu bv k1.0 k1.1 i in
                  let mu = meets_from S H m2.node u w au.0 k2.1 (λ z. k2.2 (sym au.1 ∙ z)) in
                  precedes_at S a H m2.node x u w l bu bw mu ∙ from_before S H m2.node x u w (case_before S a H m1.node m2.node x who u v w l pu pv pw uw m1.meet i m2.meet p1 q2))
            ]
          ]
        ])
  ]
]
  where
    bu : began_at H u < length H
    bu = Writer-began H x who u pu

    bv : began_at H v < length H
    bv = Writer-began H x who v pv

    bw : began_at H w < length H
    bw = Writer-began H x who w pw

    same_ends : u ≡ w → (m n : ℕ) → meets S H m u v ≡ true → meets S H n v w ≡ true → Before S H m x u v → Before S H n x v w → ⊥
    same_ends e m n hm hn b d =
        let hn2 = meets_sym S H n v u (subst (λ (z : ℕ). meets S H n v z ≡ true) (sym e) hn) in
        let z : n ≡ m = meets_once S a H n m u v l bu bv hn2 hm in
        not_both S H m x u v b (subst₂ (λ (y t : ℕ). Before S H y x v t) z (sym e) d)

    one_node : u ≢ w → (n : ℕ) → meets S H n u v ≡ true → meets S H n v w ≡ true → Before S H n x u v → Before S H n x v w → precedes S H x u w ≡ true
    one_node uw n hm hn b d =
        let k = meets_parts S H n u v hm in
        let j = meets_parts S H n v w hn in
        elim (cases_eq (side S H n u) (side S H n w)) [
          | inr f ↦ precedes_at S a H n x u w l bu bw (meets_from S H n u w k.0 j.1 f) ∙ from_before S H n x u w (along S H n x u v w b d)
          | inl f ↦ (let m3 = meets_exists S a H u w l bu bw uw in
              let k3 = meets_parts S H m3.node u w m3.meet in
              precedes_at S a H m3.node x u w l bu bw m3.meet
              ∙ from_before S H m3.node x u w (elim (comparable S a (spot_of H u) m3.node n (kind-lt S H u l bu) (on-path_of S H m3.node u k3.0) (on-path_of S H n u k.0)) [
                | inl e ↦ absurd (k3.2 (subst (λ (z : ℕ). side S H z u ≡ side S H z w) (sym e) f))
                | inr o ↦ elim o [
                  | inl i ↦ absurd (k3.2 (above S a H n m3.node u w l bu bw k.0 j.1 i).1)
                  | inr i ↦ case_below S a H m3.node n x who u v w l pu pv pw uw m3.meet i hm b d
                ]
              ]))
        ]

pub is_ordered : (S : Setup) (a : TreeFacts S) (H : List Event) → Lawful S H → IsOrdered S H
is_ordered S a H l x u v w pu pv pw p q = writers_ordered S a H l x 0 u v w (writer_of S H x 0 u l pu) (writer_of S H x 0 v l pv) (writer_of S H x 0 w l pw) p q
