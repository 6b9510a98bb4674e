-- At a snapshot node, a reader of a cell that a concurrent batch of another side puts has read an earlier version.
use Rattle.std.proofs.Common.{◌≡◌, ◌≢◌, ℕ, ◌<◌, ◌≤◌, true, false, ltb, List, Option, refl, sym, ◌∙◌, ap, subst, inl, inr, arith, ℤ, length, lt-ltb, ltb-true}
use Rattle.std.proofs.lemmas.Bool.{cases_lt, cases_eq, cases_Bool}
use Rattle.teb_rules.specs.declared.names.Txn.{Txn}
use Rattle.teb_rules.specs.declared.names.Cell.{Cell}
use Rattle.teb_rules.specs.declared.names.ControlKind.TheVariants.{Snapshot}
use Rattle.teb_rules.specs.declared.history.Event.{Event}
use Rattle.teb_rules.specs.history.Accesses.{put_at}
use Rattle.teb_rules.specs.history.Phases.{began_at, done_at, gone_at, spot_of}
use Rattle.teb_rules.specs.history.Positions.{upto}
use Rattle.teb_rules.specs.Setup.{Setup, among}
use Rattle.teb_rules.specs.Tree.{row, on, side, meets, is_timestamp, is_snapshot}
use Rattle.teb_rules.specs.Batches.{start, close}
use Rattle.teb_rules.specs.Versions.{precedes, sees_by}
use Rattle.teb_rules.specs.laws.Lawful.{Lawful}
use Rattle.teb_rules.specs.laws.TreeFacts.{TreeFacts}
use Rattle.teb_rules.proofs.lemmas.laws.Timeline.{unfinished-upto, put_order, put_granted, kind-lt, begun_counted}
use Rattle.teb_rules.proofs.lemmas.laws.Nodes.{front_of, meets_parts, meets_from, comparable, on-path_of, above, front-less}
use Rattle.teb_rules.proofs.lemmas.laws.Meeting.{meets_exists}
use Rattle.teb_rules.proofs.lemmas.laws.ReadRule.{GotAt, from_own, from_seen, from_row, got_case}
use Rattle.teb_rules.proofs.lemmas.laws.Assembly.{seen_at, wrote_here}
use Rattle.teb_rules.proofs.lemmas.laws.NodeFacts.{visible_at}
use Rattle.teb_rules.proofs.lemmas.laws.Ranks.{start-upto, same_close}
use Rattle.teb_rules.proofs.lemmas.laws.Intervals.{interval, open_while, apart_or_same, nested}
use Rattle.teb_rules.proofs.lemmas.laws.SnapshotWrites.{close-upto, snapshot_write}
use Rattle.teb_rules.proofs.lemmas.laws.VersionOrder.{precedes_at, precedes_row, put_differs, orders_start, orders_put, timestamp_is}

module _ (S : Setup) (a : TreeFacts S) (H : List Event) (n : ℕ) (l : Lawful S H) (c : (row S.tree n).control ≡ Snapshot) where
  -- of two writers of different sides, the earlier one's batch is closed before the later one's starts
  earlier_closed : (u w : ℕ) (x : Cell) → meets S H n u w ≡ true → put_at H u x < length H → put_at H w x < put_at H u x → length H ≤ gone_at H w → close S H n w < start S H n u
  earlier_closed u w x m h e g =
      let ou = put_order S H u x l h in
      let ow = put_order S H w x l (let z : put_at H w x < length H = omega arith in z) in
      (snapshot_write S H (put_at H u x) n u w x l (let z : put_at H u x ≤ length H = omega arith in z) (put_granted S H u x l h) c m ou.0
      (let y = ow.0 in let z : began_at H w < put_at H u x = omega arith in z) e (let z : put_at H u x ≤ gone_at H w = omega arith in z)).1

  by_put : (m u w : ℕ) (x : Cell) → began_at H u < length H → began_at H w < length H → meets S H m u w ≡ true → is_timestamp (row S.tree m).control ≡ false → put_at H u x < put_at H w x
      → precedes S H x u w ≡ true
  by_put m u w x bu bw k t e = precedes_at S a H m x u w l bu bw k ∙ orders_put S H m x u w t ∙ lt-ltb _ _ e

  not_stamps : is_timestamp (row S.tree n).control ≡ false
  not_stamps = ap is_timestamp c

  visible_closed : (i t w : ℕ) (x : Cell) → i ≤ length H → began_at H t < i → began_at H w < i → on S H n t ≡ true → sees_by (row S.tree n).control S (upto i H) n x t w ≡ true
      → close S H n w < start S H n t
  visible_closed i t w x h bt bw o v =
      let q : close S (upto i H) n w < start S (upto i H) n t = ltb-true _ _ (sym (snapshot_sees (upto i H) t w x) ∙ v) in
      let z = close-upto S H i n w l h bw in
      let y = start-upto S H i n t l h bt in
      let s = (interval S H n t l (let z : began_at H t < length H = omega arith in z) o).by_began in
      omega arith
    where
      snapshot_sees : (P : List Event) (t w : ℕ) (x : Cell) → sees_by (row S.tree n).control S P n x t w ≡ ltb (close S P n w) (start S P n t)
      snapshot_sees P t w x = unfold sees_by in rw c refl

  -- r read x at position i from w; b puts x and is concurrent with r
  module _ (i : ℕ) (r : Txn) (x : Cell) (w : Txn) (v : Option ℤ) (b : ℕ) (g : GotAt H i r x w v) (m : meets S H n r.0 b ≡ true) (p : put_at H b x < length H) (gb : length H ≤ gone_at H b)
      (c1 : start S H n r.0 < close S H n b) (c2 : start S H n b < close S H n r.0) where
    place : i < length H
    place = g.place

    run : (began_at H r.0 < i) × (i ≤ done_at H r.0) × (i ≤ gone_at H r.0)
    run = unfinished-upto H i r.0 (let y = g.place in let z : i ≤ length H = omega arith in z) (got_case S H i r x w v l g).0.unfinished

    bb : began_at H b < length H
    bb = let o = (put_order S H b x l p).0 in omega arith

    br : began_at H r.0 < length H
    br = let o = run.0 in let y = g.place in omega arith

    here : (on S H n r.0 ≡ true) × (on S H n b ≡ true) × (side S H n r.0 ≢ side S H n b)
    here = meets_parts S H n r.0 b m

    -- r read its own version
    own : put_at H r.0 x < i → precedes S H x r.0 b ≡ true
    own q =
        let y = g.place in
        let h : put_at H r.0 x < length H = omega arith in
        elim (cases_lt (put_at H b x) (put_at H r.0 x)) [
          | inl e ↦ absurd (let z = earlier_closed r.0 b x m h e gb in omega arith)
          | inr e ↦ (let d = put_differs H r.0 b x (λ e2. here.2 (ap (side S H n) e2)) h in by_put n r.0 b x br bb m not_stamps (omega arith))
        ]

    -- r saw w's version, if r and w are on different sides
    module _ (bw : began_at H w.0 < i) (pw : put_at H w.0 x < i) (seen : meets S H n r.0 w.0 ≡ true → close S H n w.0 < start S H n r.0) where
      bw_all : began_at H w.0 < length H
      bw_all = let y = g.place in omega arith

      pw_all : put_at H w.0 x < length H
      pw_all = let y = g.place in omega arith

      -- w and b meet at n
      across : meets S H n w.0 b ≡ true → precedes S H x w.0 b ≡ true
      across k =
          let kp = meets_parts S H n w.0 b k in
          elim (cases_lt (put_at H b x) (put_at H w.0 x)) [
            | inr e ↦ (let d = put_differs H w.0 b x (λ e2. kp.2 (ap (side S H n) e2)) pw_all in by_put n w.0 b x bw_all bb k not_stamps (omega arith))
            | inl e ↦ absurd (
                let z = earlier_closed w.0 b x k pw_all e gb in
                let iw = interval S H n w.0 l bw_all kp.0 in
                let x1 = iw.by_began in let x2 = iw.closes in
                elim (cases_eq (side S H n r.0) (side S H n w.0)) [
                  | inr ne ↦ (let s = seen (meets_from S H n r.0 w.0 here.0 kp.0 ne) in omega arith)
                  | inl eq ↦ elim (apart_or_same S H n r.0 w.0 l br bw_all here.0 kp.0 eq) [
                    | inl q ↦ omega arith
                    | inr o ↦ elim o [
                      | inl q ↦ (let y0 = run.0 in let y1 = run.1 in let y2 = run.2 in let y3 = g.place in
                          let ow = open_while S H n r.0 i l here.0 y0 (let z : i ≤ length H = omega arith in z) y1 y2 in omega arith)
                      | inr q ↦ omega arith
                    ]
                  ]
                ])
          ]

      -- w and b meet at a node below n, and so are of one side of n
      below : (k : ℕ) → meets S H k w.0 b ≡ true → among n (front_of S a k) ≡ true → precedes S H x w.0 b ≡ true
      below k mk i2 =
          let kp = meets_parts S H k w.0 b mk in
          let up = above S a H k n w.0 b l bw_all bb kp.0 kp.1 i2 in
          let s = seen (meets_from S H n r.0 w.0 here.0 up.0 (λ e. here.2 (e ∙ up.1))) in
          let iw = interval S H n w.0 l bw_all up.0 in
          let ib = interval S H n b l bb here.1 in
          let x1 = iw.by_began in let x2 = iw.closes in let x3 = ib.by_began in
          elim (apart_or_same S H n w.0 b l bw_all bb up.0 here.1 up.1) [
            | inl q ↦ absurd (let z = same_close S H n w.0 b l bw_all bb up.0 here.1 up.1 q in omega arith)
            | inr o ↦ elim o [
              | inr q ↦ absurd (omega arith)
              | inl q ↦ elim (cases_Bool (is_timestamp (row S.tree k).control)) [
                | inl t ↦ (let nb = nested S H n k b l bb here.1 kp.1 (λ u bu ou eu. above S a H k n u b l bu bb ou kp.1 i2) in
                    let y1 = nb.0 in
                    let y2 = (interval S H k w.0 l bw_all kp.0).by_began in
                    precedes_at S a H k x w.0 b l bw_all bb mk ∙ orders_start S H k x w.0 b (timestamp_is _ t) ∙ lt-ltb _ _ (omega arith))
                | inr t ↦ (let ow = put_order S H w.0 x l pw_all in let ob = put_order S H b x l p in
                    let y1 = ow.0 in let y2 = ow.1 in let y3 = ow.2 in let y4 = ob.0 in
                    let oc = open_while S H n w.0 (put_at H w.0 x) l up.0 y1 (let z : put_at H w.0 x ≤ length H = omega arith in z) (let z : put_at H w.0 x ≤ done_at H w.0 = omega arith in z)
                    (let z : put_at H w.0 x ≤ gone_at H w.0 = omega arith in z) in
                    by_put k w.0 b x bw_all bb mk t (omega arith))
              ]
            ]
          ]

      met : w.0 ≢ b → precedes S H x w.0 b ≡ true
      met ne =
          let k = meets_exists S a H w.0 b l bw_all bb ne in
          let kp = meets_parts S H k.node w.0 b k.meet in
          elim (comparable S a (spot_of H b) k.node n (kind-lt S H b l bb) (on-path_of S H k.node b kp.1) (on-path_of S H n b here.1)) [
            | inl e ↦ across (subst (λ (z : ℕ). meets S H z w.0 b ≡ true) e k.meet)
            | inr o ↦ elim o [
              | inl f ↦ absurd (let z = front-less S a n k.node f in let y = a.snapshots n (ap is_snapshot c) in omega arith)
              | inr f ↦ below k.node k.meet f
            ]
          ]

    pub read_before : precedes S H x w.0 b ≡ true
    read_before = elim (got_case S H i r x w v l g).1 [
      | from_own q o ↦ subst (λ (z : ℕ). precedes S H x z b ≡ true) (sym o) (own (wrote_here H i r.0 x (let y = g.place in let z : i ≤ length H = omega arith in z) q))
      | from_row q o y ↦ subst (λ (z : ℕ). precedes S H x z b ≡ true) (sym y) (precedes_row S H x b (begun_counted S H b l bb).0)
      | from_seen q o ↦ (
          let h : i ≤ length H = (let y = g.place in omega arith) in
          let s = seen_at S H i r.0 x w.0 l h o in
          let look : meets S H n r.0 w.0 ≡ true → close S H n w.0 < start S H n r.0 = λ k. visible_closed i r.0 w.0 x h run.0 s.began here.0
          (sym (visible_at S a H i n r.0 w.0 x l h run.0 s.began k) ∙ s.visible) in
          elim (cases_eq w.0 b) [
            | inl e ↦ absurd (let z = look (subst (λ (z : ℕ). meets S H n r.0 z ≡ true) (sym e) m) in let y = ap (close S H n) e in omega arith)
            | inr ne ↦ met s.began s.put look ne
          ])
    ]
