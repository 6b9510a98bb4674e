-- What the laws of all controls share: a version that is seen and is after the one that was read is a contradiction.
use Rattle.std.proofs.Common.{◌≡◌, ◌≢◌, ℕ, suc, ◌<◌, ◌≤◌, min, true, ltb, List, [], ◌∷◌, Option, refl, sym, ◌∙◌, ap}
use Rattle.std.proofs.Common.{subst, inl, inr, arith, ℤ, length, ltb-true, ltb-false, lt-ltb, le-ltb, le_refl, filter}
use Rattle.std.proofs.lemmas.Bool.{cases_lt, both_ways, cases_eq, false_from_ne_true}
use Rattle.teb_rules.specs.declared.names.Txn.{Txn}
use Rattle.teb_rules.specs.declared.names.Cell.{Cell}
use Rattle.teb_rules.specs.declared.history.Event.{Event}
use Rattle.teb_rules.specs.history.Accesses.{is_put, put_at, wrote, last_put}
use Rattle.teb_rules.specs.history.Phases.{txns, began_at, done_at, gone_at, aborted}
use Rattle.teb_rules.specs.history.Positions.{upto, newest, first_event}
use Rattle.teb_rules.specs.laws.Lawful.{Lawful}
use Rattle.teb_rules.specs.laws.TreeFacts.{TreeFacts}
use Rattle.teb_rules.specs.Serializes.{In}
use Rattle.teb_rules.specs.Setup.{Setup}
use Rattle.teb_rules.specs.Tree.{row, side, meets, meet}
use Rattle.teb_rules.specs.Versions.{orders, precedes, sees, sees_by}
use Rattle.teb_rules.proofs.lemmas.laws.Positions.{upto_all, upto_cons, first-upto}
use Rattle.teb_rules.proofs.lemmas.laws.Timeline.{Lawful-upto, unfinished-upto, begun_there, put_order, begun_counted, meets-upto, wrote-upto, aborted-upto}
use Rattle.teb_rules.proofs.lemmas.laws.Locks.{In-txns}
use Rattle.teb_rules.proofs.lemmas.laws.Nodes.{meets_parts, meet_is}
use Rattle.teb_rules.proofs.lemmas.laws.Ranks.{commits, start-upto}
use Rattle.teb_rules.proofs.lemmas.laws.Serial.{Commits, filter-In, In-filter}
use Rattle.teb_rules.proofs.lemmas.laws.Meeting.{meets_exists}
use Rattle.teb_rules.proofs.lemmas.laws.ReadRule.{GotAt, from_own, from_seen, from_row, got_case, put_skip, latest-none, sees_parts, sees_from}
use Rattle.teb_rules.proofs.lemmas.laws.VersionOrder.{Writes, precedes_at, precedes_irreflexive}
use Rattle.teb_rules.proofs.lemmas.laws.Assembly.{IsOrdered, SeenAt, seen_at, got_before_done}

pub put-upto : (H : List Event) (i t : ℕ) (x : Cell) → i ≤ length H → put_at (upto i H) t x ≡ min i (put_at H t x)
unfolding put_at first_event
put-upto H i t x h = first-upto (newest (is_put t x)) i H h

-- if the first of two versions exists at position i, their order there is that of the whole history
pub precedes-upto : (S : Setup) (a : TreeFacts S) (H : List Event) (i : ℕ) (x : Cell) (u w : ℕ) → Lawful S H → i ≤ length H → began_at H u < i → began_at H w < i → put_at H u x < i → u ≢ w
    → precedes S (upto i H) x u w ≡ precedes S H x u w
precedes-upto S a H i x u w l h bu bw pu ne =
    let hu : began_at H u < length H = omega arith in
    let hw : began_at H w < length H = omega arith in
    let m = meets_exists S a H u w l hu hw ne in
    precedes_at S a (upto i H) m.node x u w (Lawful-upto S H i l) (begun_there H i u h bu) (begun_there H i w h bw) (meets-upto S H i m.node u w l h bu bw ∙ m.meet)
    ∙ same m.node
    ∙ sym (precedes_at S a H m.node x u w l hu hw m.meet)
  where
    same_put : ltb (min i (put_at H u x)) (min i (put_at H w x)) ≡ ltb (put_at H u x) (put_at H w x)
    same_put = elim (cases_lt (put_at H u x) (put_at H w x)) [
      | inl r ↦ lt-ltb (min i (put_at H u x)) (min i (put_at H w x)) (omega arith) ∙ sym (lt-ltb (put_at H u x) (put_at H w x) r)
      | inr r ↦ le-ltb (min i (put_at H u x)) (min i (put_at H w x)) (omega arith) ∙ sym (le-ltb (put_at H u x) (put_at H w x) r)
    ]

    same : (n : ℕ) → orders S (upto i H) n x u w ≡ orders S H n x u w
    same n = unfold orders in rw (start-upto S H i n u l h bu, start-upto S H i n w l h bw, put-upto H i u x h, put-upto H i w x h, same_put) refl

-- whether t sees w, by the control of the node at which the two meet
pub visible_at : (S : Setup) (a : TreeFacts S) (H : List Event) (i n t w : ℕ) (x : Cell) → Lawful S H → i ≤ length H → began_at H t < i → began_at H w < i → meets S H n t w ≡ true →
    sees_by (row S.tree (meet S (upto i H) t w)).control S (upto i H) (meet S (upto i H) t w) x t w ≡ sees_by (row S.tree n).control S (upto i H) n x t w
visible_at S a H i n t w x l h bt bw m =
    let e = meet_is S a (upto i H) n t w (Lawful-upto S H i l) (begun_there H i t h bt) (begun_there H i w h bw) (meets-upto S H i n t w l h bt bw ∙ m) in
    ap (λ (k : ℕ). sees_by (row S.tree k).control S (upto i H) k x t w) e

pub meets_other : (S : Setup) (H : List Event) (n t u : ℕ) → meets S H n t u ≡ true → t ≢ u
meets_other S H n t u m e = (meets_parts S H n t u m).2 (ap (side S H n) e)

-- a Got of t at position i, while t is active, that reads from a w of which it sees the version by the control of n
pub record ReadFrom (S : Setup) (H : List Event) (i n t w : ℕ) (x : Cell) : Type 0 where
  pub began : began_at H t < i
  pub undone : i < done_at H t
  pub place : i ≤ length H
  pub seen : SeenAt S H i t x w
  pub visible : sees_by (row S.tree n).control S (upto i H) n x t w ≡ true

pub got_time : (S : Setup) (H : List Event) (i : ℕ) (t : Txn) (x : Cell) (w : Txn) (v : Option ℤ) → Lawful S H → GotAt H i t x w v → Commits H t.0 → (i < length H) × (began_at H t.0 < i)
    × (i < done_at H t.0) × (i ≤ gone_at H t.0)
got_time S H i t x w v l g c =
    let h = g.place in
    let u = unfinished-upto H i t.0 (let y : i ≤ length H = omega arith in y) (got_case S H i t x w v l g).0.unfinished in
    (h, u.0, got_before_done H i t x w v g u.1 c, u.2)

pub read_meets : (S : Setup) (a : TreeFacts S) (H : List Event) (i n : ℕ) (t : Txn) (x : Cell) (w : Txn) (v : Option ℤ) → Lawful S H → GotAt H i t x w v → Commits H t.0 → Commits H w.0
    → meets S H n t.0 w.0 ≡ true → ReadFrom S H i n t.0 w.0 x
read_meets S a H i n t x w v l g ct cw m =
    let k = got_time S H i t x w v l g ct in
    let h : i ≤ length H = (let z = k.0 in omega arith) in
    let bw = (begun_counted S H w.0 l (let z = commits S H w.0 l cw in omega arith)).0 in
    elim (got_case S H i t x w v l g).1 [
      | from_own p o ↦ absurd (meets_other S H n t.0 w.0 m (sym o))
      | from_row p o y ↦ absurd (omega arith)
      | from_seen p o ↦ (let s = seen_at S H i t.0 x w.0 l h o in
          record { began = k.1; undone = k.2; place = h; seen = s; visible = sym (visible_at S a H i n t.0 w.0 x l h k.1 s.began m) ∙ s.visible })
    ]

-- contradiction: at its Got, t would have seen b, whose version is after the one that was read
pub seen_clash : (S : Setup) (a : TreeFacts S) (H : List Event) (i n : ℕ) (t : Txn) (x : Cell) (w : Txn) (v : Option ℤ) (b : ℕ) → Lawful S H → IsOrdered S (upto i H) → GotAt H i t x w v → w.0 ≢ t.0
    → Commits H t.0 → Commits H b → meets S H n t.0 b ≡ true →
    put_at H b x < i → precedes S H x w.0 b ≡ true → sees_by (row S.tree n).control S (upto i H) n x t.0 b ≡ true → ⊥
seen_clash S a H i n t x w v b l ord g ne ct cb m p e s =
    let k = got_time S H i t x w v l g ct in
    let h : i ≤ length H = (let z = k.0 in omega arith) in
    let ob = put_order S H b x l (let z = k.0 in omega arith) in
    let bb : began_at H b < i = (let z = ob.0 in omega arith) in
    let gb : i ≤ gone_at H b = (let z = commits S H b l cb in omega arith) in
    let see : sees S (upto i H) x t.0 b ≡ true = sees_from S (upto i H) x t.0 b (λ q. meets_other S H n t.0 b m (sym q)) (wrote-upto H i b x h ∙ lt-ltb _ _ p) (aborted-upto H i b h ∙ le-ltb _ _ gb)
    (visible_at S a H i n t.0 b x l h k.1 bb m ∙ s) in
    elim (got_case S H i t x w v l g).1 [
      | from_own f o ↦ ne o
      | from_seen f o ↦ (let r = seen_at S H i t.0 x w.0 l h o in
          elim (cases_eq w.0 b) [
            | inl q ↦ both_ways _ (precedes_irreflexive S H x b) (subst (λ (z : ℕ). precedes S H x z b ≡ true) q e)
            | inr q ↦ both_ways _ (r.top b bb see) (precedes-upto S a H i x w.0 b l h r.began bb r.put q ∙ e)
          ])
      | from_row f o y ↦ latest-none S (upto i H) x (filter (sees S (upto i H) x t.0) (txns (upto i H))) b (λ c j. precedes_irreflexive S (upto i H) x c)
          (λ c d f j2 j3 j4. ord x c d f (stand c j2) (stand d j3) (stand f j4)) o
          (In-filter (sees S (upto i H) x t.0) b (txns (upto i H)) (In-txns S (upto i H) b (Lawful-upto S H i l) (begun_there H i b h bb)) see)
    ]
  where
    stand : (c : ℕ) → In c (filter (sees S (upto i H) x t.0) (txns (upto i H))) → Writes (upto i H) x c
    stand c j = let q = sees_parts S (upto i H) x t.0 c (filter-In (sees S (upto i H) x t.0) c (txns (upto i H)) j).1 in
        record { put = ltb-true _ _ (unfold wrote in q.1); stands = ltb-false _ _ (unfold aborted in q.2) }

-- if no event from position i on is a Put of x by w, w's last value of x stays
pub last_put-stable : (H : List Event) (i w : ℕ) (x : Cell) → i ≤ length H → ((j : ℕ) (e : Event) → i ≤ j → j < length H → upto (suc j) H ≡ e ∷ upto j H → is_put w x e ≡ true → ⊥)
    → last_put H w x ≡ last_put (upto i H) w x
last_put-stable [] i w x h f = unfold upto in refl
last_put-stable (e ∷ P) i w x h f = elim (cases_lt (length P) i) [
  | inl r ↦ ap (λ (Q : List Event). last_put Q w x) (sym (upto_all i (e ∷ P) r))
  | inr r ↦ put_skip e P w x (false_from_ne_true _ (λ q. absurd (f (length P) e r (let z : length P < suc (length P) = omega arith in z)
      (upto_all (suc (length P)) (e ∷ P) (le_refl _) ∙ ap (λ (Q : List Event). e ∷ Q) (sym (upto_cons (length P) e P (le_refl _) ∙ upto_all (length P) P (le_refl _)))) q)))
      ∙ last_put-stable P i w x r
      (λ j d a b c q. f j d a (let z : j < suc (length P) = omega arith in z)
      (upto_cons (suc j) e P b ∙ c ∙ ap (λ (Q : List Event). d ∷ Q) (sym (upto_cons j e P (let z : j ≤ length P = omega arith in z)))) q)
      ∙ ap (λ (Q : List Event). last_put Q w x) (sym (upto_cons i e P r))
]
