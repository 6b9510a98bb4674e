-- The law of a snapshot node.
use Rattle.std.proofs.Common.{◌≡◌, ◌≢◌, ℕ, ◌<◌, ◌≤◌, min, true, false, ltb, List, refl, sym, ◌∙◌, inl, inr, arith, length, ltb-true, lt-ltb, le_refl, eq-eqb}
use Rattle.std.proofs.lemmas.Bool.{cases_lt, false_from_ne_true, and_parts, and_from}
use Rattle.teb_rules.specs.declared.names.Cell.{Cell}
use Rattle.teb_rules.specs.declared.history.Event.{Event}
use Rattle.teb_rules.specs.declared.names.ControlKind.TheVariants.{Snapshot}
use Rattle.teb_rules.specs.history.Accesses.{put_at, wrote}
use Rattle.teb_rules.specs.history.Phases.{txns, began_at, done_at, gone_at}
use Rattle.teb_rules.specs.history.Positions.{upto}
use Rattle.teb_rules.specs.laws.Lawful.{Lawful}
use Rattle.teb_rules.specs.laws.TreeFacts.{TreeFacts}
use Rattle.teb_rules.specs.Batches.{start, close, one_batch}
use Rattle.teb_rules.specs.Controls.{edge}
use Rattle.teb_rules.specs.Ranks.{rank, has_edge_out, rank_by}
use Rattle.teb_rules.specs.Setup.{Setup}
use Rattle.teb_rules.specs.Tree.{row, on}
use Rattle.teb_rules.specs.Versions.{sees_by}
use Rattle.teb_rules.proofs.lemmas.laws.Timeline.{granted_at, unfinished-upto, put_order, put_may}
use Rattle.teb_rules.proofs.lemmas.laws.Locks.{In-txns}
use Rattle.teb_rules.proofs.lemmas.laws.Nodes.{meets_parts, meets_sym}
use Rattle.teb_rules.proofs.lemmas.laws.Ranks.{commits, start-upto}
use Rattle.teb_rules.proofs.lemmas.laws.Serial.{Commits}
use Rattle.teb_rules.proofs.lemmas.laws.Assembly.{IsOrdered}
use Rattle.teb_rules.proofs.lemmas.laws.NodeFacts.{got_time, read_meets, seen_clash, last_put-stable}
use Rattle.teb_rules.proofs.lemmas.laws.Intervals.{interval, open_while, start_not_close}
use Rattle.teb_rules.proofs.lemmas.laws.Ranks.{BatchRank, snapshot_rank}
use Rattle.teb_rules.proofs.lemmas.laws.Timeline.{put_granted}
use Rattle.teb_rules.proofs.lemmas.laws.VersionOrder.{orders_put}
use Rattle.teb_rules.proofs.lemmas.laws.Assembly.{NodeLaw}
use Rattle.teb_rules.proofs.lemmas.laws.Serial.{commits_from, committed_from}
use Rattle.teb_rules.proofs.lemmas.laws.SnapshotWrites.{close-upto, snapshot_write}
use Rattle.teb_rules.proofs.lemmas.laws.Pivots.{no_pivot, edge_from, past_at}
use Rattle.teb_rules.proofs.lemmas.laws.Lists.{list_any_from, list_any_In}

edge_out_from : (S : Setup) (H : List Event) (n t b : ℕ) → Lawful S H → on S H n t ≡ true → Commits H t → Commits H b → edge S H n t b ≡ true → has_edge_out S H n t ≡ true
unfolding has_edge_out one_batch
edge_out_from S H n t b l o ct cb e =
    list_any_from _ (txns H) t (In-txns S H t l (let z = commits S H t l ct in omega arith))
    (and_from _ _ (and_from _ _ (committed_from H t ct) (and_from _ _ (and_from _ _ (and_from _ _ o o) (eq-eqb _ _ refl)) (eq-eqb _ _ refl)))
    (list_any_from _ (txns H) b (In-txns S H b l (let z = commits S H b l cb in omega arith)) (and_from _ _ (committed_from H b cb) e)))

edge_out_is : (S : Setup) (H : List Event) (n t : ℕ) → has_edge_out S H n t ≡ true → (c : ℕ) × (d : ℕ) × Commits H c × Commits H d × (one_batch S H n t c ≡ true) × (edge S H n c d ≡ true)
unfolding has_edge_out
edge_out_is S H n t h =
    let r = list_any_In _ (txns H) h in
    let p = and_parts _ _ r.2 in
    let q = and_parts _ _ p.0 in
    let s = list_any_In _ (txns H) p.1 in
    let k = and_parts _ _ s.2 in
    (r.0, s.0, commits_from H r.0 q.0, commits_from H s.0 k.0, q.1, k.1)

rank_out : (S : Setup) (H : List Event) (n t : ℕ) → (row S.tree n).control ≡ Snapshot → has_edge_out S H n t ≡ true → rank S H n t ≡ start S H n t
unfolding rank rank_by
rank_out S H n t c h = rw (c, h) refl

rank_in : (S : Setup) (H : List Event) (n t : ℕ) → (row S.tree n).control ≡ Snapshot → has_edge_out S H n t ≡ false → rank S H n t ≡ close S H n t
unfolding rank rank_by
rank_in S H n t c h = rw (c, h) refl

sees_snapshot : (S : Setup) (P : List Event) (n : ℕ) (x : Cell) (t b : ℕ) → (row S.tree n).control ≡ Snapshot → sees_by (row S.tree n).control S P n x t b ≡ ltb (close S P n b) (start S P n t)
unfolding sees_by
sees_snapshot S P n x t b c = rw c refl

-- if a Got sees a writer, the writer's batch is closed before the reader's batch starts
seen_closed : (S : Setup) (H : List Event) (i n t w : ℕ) (x : Cell) → Lawful S H → (row S.tree n).control ≡ Snapshot → i ≤ length H → began_at H t < i → began_at H w < i → on S H n t ≡ true
    → sees_by (row S.tree n).control S (upto i H) n x t w ≡ true → close S H n w < start S H n t
seen_closed S H i n t w x l c h bt bw o v =
    let q : close S (upto i H) n w < start S (upto i H) n t = ltb-true _ _ (sym (sees_snapshot S (upto i H) n x t w c) ∙ v) in
    let z = close-upto S H i n w l h bw in
    let y = start-upto S H i n t l h bt in
    let s = (interval S H n t l (let z : began_at H t < length H = omega arith in z) o).by_began in
    omega arith

pub snapshot_law : (S : Setup) (a : TreeFacts S) (H : List Event) (n : ℕ) → Lawful S H → ((j : ℕ) → IsOrdered S (upto j H)) → (row S.tree n).control ≡ Snapshot → NodeLaw S H n
snapshot_law S a H n l ord c = record {
  write_write = λ u w x cu cw m pu pw o.
      let q : put_at H u x < put_at H w x = ltb-true _ _ (sym (orders_put S H n x u w (rw c refl)) ∙ o) in
      let k = meets_parts S H n u w m in
      let ou = put_order S H u x l pu in
      let ow = put_order S H w x l pw in
      let du = commits S H u l cu in
      let s = snapshot_write S H (put_at H w x) n w u x l (let z : put_at H w x ≤ length H = omega arith in z) (put_granted S H w x l pw) c (meets_sym S H n u w m) ow.0 (let z = ou.0 in omega arith) q
      (let z = du.1 in omega arith) in
      let z = b.high u (let y = du.0 in omega arith) k.0 in let y = b.low w (let y = ow.0 in omega arith) k.1 in let f = s.1 in omega arith;
  write_read = λ i t x w v g ct cw m.
      let r = read_meets S a H i n t x w v l g ct cw m in
      let k = meets_parts S H n t.0 w.0 m in
      let s = seen_closed S H i n t.0 w.0 x l c r.place r.began r.seen.began k.0 r.visible in
      let z = b.high w.0 (let y = commits S H w.0 l cw in omega arith) k.1 in let y = b.low t.0 (let y = commits S H t.0 l ct in omega arith) k.0 in omega arith;
  read_write = λ i t x w v d g ne ct cd m pd e.
      let k = got_time S H i t x w v l g ct in
      let h : i ≤ length H = (let z = k.0 in omega arith) in
      let od = put_order S H d x l pd in
      let dd = commits S H d l cd in
      let dt = commits S H t.0 l ct in
      let mp = meets_parts S H n t.0 d m in
      let bt : began_at H t.0 < length H = (let f = k.1 in omega arith) in
      let bd : began_at H d < length H = (let f = od.0 in omega arith) in
      let it = interval S H n t.0 l bt mp.0 in
      let id = interval S H n d l bd mp.1 in
      let x1 = it.by_began in let x2 = it.closes in let x3 = id.by_began in let x4 = id.closes in
      elim (cases_lt (close S H n t.0) (start S H n d)) [
        | inl q ↦ (let z = b.high t.0 bt mp.0 in let y = b.low d bd mp.1 in omega arith)
        | inr q ↦ elim (cases_lt (close S H n d) (start S H n t.0)) [
          | inl r ↦ absurd (
              let ow = open_while S H n d (put_at H d x) l mp.1 od.0 (let f = od.1 in let z : put_at H d x ≤ length H = omega arith in z)
              (let f = od.1 in let z : put_at H d x ≤ done_at H d = omega arith in z) (let f = od.2 in let z : put_at H d x ≤ gone_at H d = omega arith in z) in
              let f = k.1 in
              seen_clash S a H i n t x w v d l (ord i) g ne ct cd m (omega arith) e
              (sees_snapshot S (upto i H) n x t.0 d c
              ∙ lt-ltb _ _ (rw (start-upto S H i n t.0 l h k.1, close-upto S H i n d l h (let z : began_at H d < i = omega arith in z))
              (let z : min i (close S H n d) < start S H n t.0 = omega arith in z))))
          | inr r ↦ (
              let sd : start S H n t.0 ≢ close S H n d = start_not_close S H n t.0 d l mp.0 mp.1 bt bd in
              let se : start S H n d ≢ close S H n t.0 = start_not_close S H n d t.0 l mp.1 mp.0 bd bt in
              let ed = edge_from S H n t.0 d m (omega arith) (omega arith) (past_at S H H i t x w v d g.place g.is (wrote_now d x pd) e) in
              let out = edge_out_from S H n t.0 d l mp.0 ct cd ed in
              let none : has_edge_out S H n d ≡ false = false_from_ne_true _ (λ f. let y = edge_out_is S H n d f in absurd (no_pivot S a H n t.0 d y.0 y.1 l c ct cd y.2 y.3 ed y.5 y.4)) in
              let z = rank_out S H n t.0 c out in let y = rank_in S H n d c none in omega arith)
        ]
      ];
  stable = λ i t x w v g ct cw m.
      let r = read_meets S a H i n t x w v l g ct cw m in
      let k = meets_parts S H n t.0 w.0 m in
      let s = seen_closed S H i n t.0 w.0 x l c r.place r.began r.seen.began k.0 r.visible in
      let dw = commits S H w.0 l cw in
      let ow = open_while S H n w.0 (done_at H w.0) l k.1 dw.0 (let z : done_at H w.0 ≤ length H = omega arith in z) (le_refl _) (let z = dw.1 in let y : done_at H w.0 ≤ gone_at H w.0 = omega arith in
      y) in
      let y = (interval S H n t.0 l (let z = r.began in let f = r.place in omega arith) k.0).by_began in let x1 = r.began in
      last_put-stable H i w.0 x r.place
      (λ j e p q z f. let u = unfinished-upto H j w.0 (let y : j ≤ length H = omega arith in y) (put_may S (upto j H) e w.0 x f (granted_at S H j e l z)).unfinished in let y2 = u.1 in
      omega arith);
}
  where
    b : BatchRank S H n
    b = snapshot_rank S H n l c

    wrote_now : (d : ℕ) (x : Cell) → put_at H d x < length H → wrote H d x ≡ true
    wrote_now d x p = unfold wrote in lt-ltb _ _ p
