-- From the laws of the single nodes to the serial order of the whole tree.
use Rattle.std.proofs.Common.{unwrap_or, ◌≡◌, ◌≢◌, ℕ, suc, ◌<◌, ◌≤◌, Bool, true, false, ◌&&◌, List, [], ◌∷◌, Option, Some, None, refl, sym, ◌∙◌, ap, ap₂}
use Rattle.std.proofs.Common.{subst, subst₂, inl, inr, arith, ℤ, length, ltb-true, ltb-false, lt-ltb, le-ltb, le_refl, eqb-true, eq-eqb, ne_eqb, filter}
use Rattle.std.proofs.lemmas.Bool.{cases_lt, both_ways, cases_order, cases_eq, and_parts, and_from, or_cases, or_left, or_right, not-true, not_from_false, eqb-false}
use Rattle.std.specs.List.{list_any}
use Rattle.teb_rules.specs.declared.names.Txn.{Txn}
use Rattle.teb_rules.specs.declared.names.Cell.{Cell}
use Rattle.teb_rules.specs.declared.history.Event.{Event}
use Rattle.teb_rules.specs.declared.history.Event.TheVariants.{Began, Got, Put, Ready, Done, Gone, Told}
use Rattle.teb_rules.specs.history.Accesses.{is_from, put_at, wrote, last_put, read_from}
use Rattle.teb_rules.specs.history.Phases.{txns, is_done, began_at, done_at, gone_at, committed, aborted}
use Rattle.teb_rules.specs.history.Positions.{upto, newest, first_event}
use Rattle.teb_rules.proofs.lemmas.history.Chains.{length-upto, upto-upto}
use Rattle.teb_rules.specs.laws.Lawful.{ReadsRows, Lawful}
use Rattle.teb_rules.specs.laws.TreeFacts.{TreeFacts}
use Rattle.teb_rules.specs.Ranks.{rank, serially, serial_order}
use Rattle.teb_rules.specs.Replay.{table_after}
use Rattle.teb_rules.specs.Serializes.{In, Serializes, value_of, final_table}
use Rattle.teb_rules.specs.Setup.{Store, Setup}
use Rattle.teb_rules.specs.names.Rows.{row_of}
use Rattle.teb_rules.specs.Tree.{row, meets, meet}
use Rattle.teb_rules.specs.Versions.{orders, precedes, sees, sees_by, latest}
use Rattle.teb_rules.proofs.lemmas.laws.Positions.{upto_all, upto_cons}
use Rattle.teb_rules.proofs.lemmas.laws.Timeline.{Lawful-upto, unfinished-upto, upto-unfinished, begun_there, put_order, done_granted, begun_counted, meets-upto, aborted-upto, wrote-upto, event_first}
use Rattle.teb_rules.proofs.lemmas.laws.Lists.{Pairs-weaker, stands_sorted}
use Rattle.teb_rules.proofs.lemmas.laws.Replay.{ReadWell, AllReadWell, replays, left_last, left_row}
use Rattle.teb_rules.proofs.lemmas.laws.Locks.{In-txns}
use Rattle.teb_rules.proofs.lemmas.laws.Nodes.{meets_parts, meets_sym}
use Rattle.teb_rules.proofs.lemmas.laws.Ranks.{commits, commit_free}
use Rattle.teb_rules.proofs.lemmas.laws.Serial.{Commits, commits_from, committed_from, filter-In, In-filter, serial_strict, serial_from_rank, order_each, order_all, order_sorted}
use Rattle.teb_rules.proofs.lemmas.laws.Meeting.{meets_exists}
use Rattle.teb_rules.proofs.lemmas.laws.ReadRule.{GotAt, from_own, from_seen, from_row, got_case, latest-some, latest-none, sees_parts, last_put-none, last_put-some}
use Rattle.teb_rules.proofs.lemmas.laws.VersionOrder.{Writes, precedes_at, precedes_row, precedes_total, precedes_irreflexive}
use Rattle.teb_rules.specs.Versions.{value_left}

-- what the control of node n must guarantee: conflicts of two sides are ordered by rank, and a version that was read is final
pub record NodeLaw (S : Setup) (H : List Event) (n : ℕ) : Type 0 where
  pub write_write : (u w : ℕ) (x : Cell) → Commits H u → Commits H w → meets S H n u w ≡ true → put_at H u x < length H → put_at H w x < length H → orders S H n x u w ≡ true
      → rank S H n u < rank S H n w
  pub write_read : (i : ℕ) (t : Txn) (x : Cell) (w : Txn) (v : Option ℤ) → GotAt H i t x w v → Commits H t.0 → Commits H w.0 → meets S H n t.0 w.0 ≡ true → rank S H n w.0 < rank S H n t.0
  pub read_write : (i : ℕ) (t : Txn) (x : Cell) (w : Txn) (v : Option ℤ) (b : ℕ) → GotAt H i t x w v → w.0 ≢ t.0 → Commits H t.0 → Commits H b → meets S H n t.0 b ≡ true → put_at H b x < length H
      → precedes S H x w.0 b ≡ true → rank S H n t.0 < rank S H n b
  pub stable : (i : ℕ) (t : Txn) (x : Cell) (w : Txn) (v : Option ℤ) → GotAt H i t x w v → Commits H t.0 → Commits H w.0 → meets S H n t.0 w.0 ≡ true → last_put H w.0 x ≡ last_put (upto i H) w.0 x

-- the order of versions is transitive on the writers of a cell
abbrev pub IsOrdered : Setup → List Event → Type 0
IsOrdered S H = (x : Cell) (u v w : ℕ) → Writes H x u → Writes H x v → Writes H x w → precedes S H x u v ≡ true → precedes S H x v w ≡ true → precedes S H x u w ≡ true

pub wrote_here : (H : List Event) (i u : ℕ) (x : Cell) → i ≤ length H → wrote (upto i H) u x ≡ true → put_at H u x < i
wrote_here H i u x h w = ltb-true _ _ (sym (wrote-upto H i u x h) ∙ w)

pub stands_here : (H : List Event) (i u : ℕ) → i ≤ length H → aborted (upto i H) u ≡ false → i ≤ gone_at H u
stands_here H i u h w = ltb-false _ _ (sym (aborted-upto H i u h) ∙ w)

-- an event at a position that passes q is one that the history has
any_at : (q : Event → Bool) (H : List Event) (i : ℕ) (e : Event) → i < length H → upto (suc i) H ≡ e ∷ upto i H → q e ≡ true → list_any q H ≡ true
any_at q [] i e h is p = absurd (omega arith)
any_at q (f ∷ P) i e h is p = elim (cases_lt i (length P)) [
  | inl r ↦ or_right (q f) (list_any q P) (any_at q P i e r (rw (upto_cons (suc i) f P r, upto_cons i f P (let z : i ≤ length P = omega arith in z)) at is) p)
  | inr r ↦ or_left (q f) (list_any q P) (ap (newest q) (sym (upto_all (suc i) (f ∷ P) (let z : suc (length P) ≤ suc i = omega arith in z)) ∙ is) ∙ p)
]

pub got_before_done : (H : List Event) (i : ℕ) (t : Txn) (x : Cell) (w : Txn) (v : Option ℤ) → GotAt H i t x w v → i ≤ done_at H t.0 → done_at H t.0 < length H → i < done_at H t.0
unfolding done_at
got_before_done H i t x w v g h d = elim (cases_order i (first_event (is_done t.0) H)) [
  | inl e ↦ (let f = event_first (is_done t.0) H d in absurd (both_ways (is_done t.0 (Got t x w v)) refl
      (ap (newest (is_done t.0)) (sym g.is ∙ ap (λ (z : ℕ). upto (suc z) H) e ∙ f.is) ∙ f.passes)))
  | inr o ↦ elim o [ inl r ↦ r | inr r ↦ absurd (omega arith) ]
]

-- what t read from is seen at the time of the read
pub record SeenAt (S : Setup) (H : List Event) (i t : ℕ) (x : Cell) (w : ℕ) : Type 0 where
  pub other : w ≢ t
  pub put : put_at H w x < i
  pub began : began_at H w < i
  pub stands : i ≤ gone_at H w
  pub visible : sees_by (row S.tree (meet S (upto i H) t w)).control S (upto i H) (meet S (upto i H) t w) x t w ≡ true
  pub top : (b : ℕ) → began_at H b < i → sees S (upto i H) x t b ≡ true → precedes S (upto i H) x w b ≡ false

pub seen_at : (S : Setup) (H : List Event) (i t : ℕ) (x : Cell) (w : ℕ) → Lawful S H → i ≤ length H → latest S (upto i H) x (filter (sees S (upto i H) x t) (txns (upto i H))) ≡ Some w
    → SeenAt S H i t x w
seen_at S H i t x w l h e =
    let r = latest-some S (upto i H) x _ w e in
    let q = filter-In (sees S (upto i H) x t) w (txns (upto i H)) r.0 in
    let p = sees_parts S (upto i H) x t w q.1 in
    let k = wrote_here H i w x h p.1 in
    let o = put_order S H w x l (let z : put_at H w x < length H = omega arith in z) in
    record {
      other = p.0;
      put = k;
      began = (let z = o.0 in omega arith);
      stands = stands_here H i w h p.2;
      visible = p.3;
      top = λ b y s. r.1 b (In-filter (sees S (upto i H) x t) b (txns (upto i H)) (In-txns S (upto i H) b (Lawful-upto S H i l) (begun_there H i b h y)) s);
    }

-- a transaction that a committed t read from is committed before t
pub read_done : (S : Setup) (a : TreeFacts S) (H : List Event) (i : ℕ) (t : Txn) (x : Cell) (w : Txn) (v : Option ℤ) → Lawful S H → GotAt H i t x w v → Commits H t.0 → SeenAt S H i t.0 x w.0
    → done_at H w.0 < done_at H t.0
read_done S a H i t x w v l g c s =
    let u = unfinished-upto H i t.0 (let z = g.place in let y : i ≤ length H = omega arith in y) (got_case S H i t x w v l g).0.unfinished in
    let d : i < done_at H t.0 = got_before_done H i t x w v g u.1 c in
    let j = done_at H t.0 in
    let h : j ≤ length H = omega arith in
    let ct = commits S H t.0 l c in
    let bw : began_at H w.0 < j = (let z = s.began in omega arith) in
    let m = meets_exists S a H t.0 w.0 l (let z : began_at H t.0 < length H = omega arith in z) (let z : began_at H w.0 < length H = omega arith in z) (λ e. s.other (sym e)) in
    let rf : read_from (upto j H) t.0 w.0 ≡ true = was_read j d h s.other in
    let f = (commit_free S H m.node t.0 w.0 l c (meets_parts S H m.node t.0 w.0 m.meet).0 bw).2 in
    let st : j ≤ gone_at H w.0 = stands_here H j w.0 h ((done_granted S H t.0 l c).settled t.0 w.0 (aborted-upto H j t.0 h ∙ le-ltb _ _ (let z : j ≤ gone_at H t.0 = omega arith in z)) rf) in
    elim (cases_lt (done_at H w.0) j) [
      | inl r ↦ r
      | inr r ↦ absurd (both_ways _ f (and_from _ _ (and_from _ _ (upto-unfinished H j w.0 h bw r st) (meets-upto S H j m.node t.0 w.0 l h ct.0 bw ∙ m.meet)) rf))
    ]
  where
    was_read : (j : ℕ) → i < j → j ≤ length H → w.0 ≢ t.0 → read_from (upto j H) t.0 w.0 ≡ true
    was_read j d h ne = unfold read_from in any_at (is_from t.0 w.0) (upto j H) i (Got t x w v) (let y = length-upto j H h in let z : i < length (upto j H) = omega arith in z)
        (rw (upto-upto (suc i) j H d, upto-upto i j H (let z : i ≤ j = omega arith in z)) g.is)
        (and_from _ _ (and_from _ _ (eq-eqb t.0 t.0 refl) (eq-eqb w.0 w.0 refl)) (not_from_false _ (ne_eqb t.0 w.0 (λ e. ne (sym e)))))

-- two committed writers are in the serial order as their versions are
lt_writes : (S : Setup) (a : TreeFacts S) (H : List Event) (u w : ℕ) (x : Cell) → Lawful S H → ((n : ℕ) → NodeLaw S H n) → Commits H u → Commits H w → u ≢ w → put_at H u x < length H
    → put_at H w x < length H →
    precedes S H x u w ≡ true → serially S H u w ≡ true
lt_writes S a H u w x l law cu cw ne pu pw e =
    let bu : began_at H u < length H = (let z = commits S H u l cu in omega arith) in
    let bw : began_at H w < length H = (let z = commits S H w l cw in omega arith) in
    let m = meets_exists S a H u w l bu bw ne in
    serial_from_rank S a H m.node u w l cu cw m.meet ((law m.node).write_write u w x cu cw m.meet pu pw (sym (precedes_at S a H m.node x u w l bu bw m.meet) ∙ e))

lt_after_read : (S : Setup) (a : TreeFacts S) (H : List Event) (i : ℕ) (t : Txn) (x : Cell) (w : Txn) (v : Option ℤ) (b : ℕ) → Lawful S H → ((n : ℕ) → NodeLaw S H n) → GotAt H i t x w v → w.0 ≢ t.0
    → Commits H t.0 → Commits H b → b ≢ t.0 →
    put_at H b x < length H → precedes S H x w.0 b ≡ true → serially S H t.0 b ≡ true
lt_after_read S a H i t x w v b l law g ne ct cb nb pb e =
    let bt : began_at H t.0 < length H = (let z = commits S H t.0 l ct in omega arith) in
    let bb : began_at H b < length H = (let z = commits S H b l cb in omega arith) in
    let m = meets_exists S a H t.0 b l bt bb (λ q. nb (sym q)) in
    serial_from_rank S a H m.node t.0 b l ct cb m.meet ((law m.node).read_write i t x w v b g ne ct cb m.meet pb e)

commits_writes : (S : Setup) (H : List Event) (x : Cell) (u : ℕ) → Lawful S H → Commits H u → put_at H u x < length H → Writes H x u
commits_writes S H x u l c p = record { put = p; stands = (commits S H u l c).1 }

-- each Got of a committed transaction has the value that the serial order gives
got_well : (S : Setup) (a : TreeFacts S) (R : List (Cell × ℤ)) (H : List Event) (i : ℕ) (t : Txn) (x : Cell) (w : Txn) (v : Option ℤ) → (w.0 ≡ 0 → v ≡ row_of R x) → Lawful S H
    → ((n : ℕ) → NodeLaw S H n) → ((j : ℕ) → IsOrdered S (upto j H)) → GotAt H i t x w v → Commits H t.0 →
    ReadWell (Commits H) (serially S H) (λ b. last_put H b x) t.0 (row_of R x) (last_put (upto i H) t.0 x) v
got_well S a R H i t x w v zr l law ord g ct =
    let h : i ≤ length H = (let z = g.place in omega arith) in
    let gc = got_case S H i t x w v l g in
    let val = gc.2 in
    elim gc.1 [
      | from_own p e ↦ (let pt = own_positive in let q : v ≡ value_left (upto i H) t.0 x = (val (let y = e in omega arith) ∙ ap (λ (z : ℕ). value_left (upto i H) z x) e) in
          let r = last_put-some (upto i H) t.0 x (unfold wrote in ltb-true _ _ p) in inl (own_is (last_put (upto i H) t.0 x) r.0 v r.1 q))
      | from_seen p e ↦ inr (
        last_put-none (upto i H) t.0 x (unfold wrote in ltb-false _ _ p),
        inr (
            let s = seen_at S H i t.0 x w.0 l h e in
            let d = read_done S a H i t x w v l g ct s in
            let cw : Commits H w.0 = omega arith in
            let bt : began_at H t.0 < length H = (let z = commits S H t.0 l ct in omega arith) in
            let bw : began_at H w.0 < length H = (let z = s.began in omega arith) in
            let m = meets_exists S a H t.0 w.0 l bt bw (λ z. s.other (sym z)) in
            let st = (law m.node).stable i t x w v g ct cw m.meet in
            let pw : put_at H w.0 x < length H = (let z = s.put in omega arith) in
            let n = last_put-some H w.0 x pw in
            record {
              writer = w.0;
              number = n.0;
              is_in = cw;
              wrote = n.1;
              value = val (begun_counted S H w.0 l bw).0 ∙ ap (λ (z : Option (Option ℤ)). unwrap_or z None) (sym st ∙ n.1);
              before = serial_from_rank S a H m.node w.0 t.0 l cw ct (meets_sym S H m.node t.0 w.0 m.meet) ((law m.node).write_read i t x w v g ct cw m.meet);
              others = λ b cb nb. elim (cases_lt (put_at H b x) (length H)) [
                | inr k ↦ inl (inl (last_put-none H b x k))
                | inl k ↦ elim (cases_eq b w.0) [
                  | inl z ↦ inl (inr (inl z))
                  | inr z ↦ elim (precedes_total S a H x b w.0 l (commits_writes S H x b l cb k) (commits_writes S H x w.0 l cw pw) z) [
                    | inl y ↦ inl (inr (inr (lt_writes S a H b w.0 x l law cb cw z k pw y)))
                    | inr y ↦ inr (lt_after_read S a H i t x w v b l law g s.other ct cb nb k y)
                  ]
                ]
              ];
            }),
      )
      | from_row p e q ↦ inr (
        last_put-none (upto i H) t.0 x (unfold wrote in ltb-false _ _ p),
        inl (record {
          value = zr q;
          others = λ b cb nb. elim (cases_lt (put_at H b x) (length H)) [
            | inr k ↦ inl (last_put-none H b x k)
            | inl k ↦ (let bb : began_at H b < length H = (let y = commits S H b l cb in omega arith) in let bt = (commits S H t.0 l ct).0 in
                let tp : 0 < t.0 = (begun_counted S H t.0 l (omega arith)).0 in
                inr (lt_after_read S a H i t x w v b l law g (λ y. let f = q in omega arith) ct cb nb k (rw q (precedes_row S H x b (begun_counted S H b l bb).0))))
          ];
        }),
      )
    ]
  where
    own_positive : 0 < t.0
    own_positive = (begun_counted S H t.0 l (let z = commits S H t.0 l ct in omega arith)).0

    own_is : (o : Option (Option ℤ)) (n v : Option ℤ) → o ≡ Some n → v ≡ unwrap_or o None → o ≡ Some v
    own_is o n v e q = e ∙ ap (λ (z : Option ℤ). Some z) (sym (q ∙ ap (λ (z : Option (Option ℤ)). unwrap_or z None) e))

same_txn : (t : Txn) (n : ℕ) → t.0 ≡ n → t ≡ record { 0 = n }
same_txn t n e = ap (λ (z : ℕ). record { 0 = z }) e

-- P is what H was before position `length P`
pub suffix_next : (H : List Event) (e : Event) (P : List Event) → upto (length (e ∷ P)) H ≡ e ∷ P → upto (length P) H ≡ P
suffix_next H e P q = sym (upto-upto (length P) (suc (length P)) H (let z : length P ≤ suc (length P) = omega arith in z)) ∙ ap (upto (length P)) q ∙ upto_cons (length P) e P (le_refl _)
    ∙ upto_all (length P) P (le_refl _)

pub suffix_got : (H : List Event) (u : Txn) (x : Cell) (w : Txn) (v : Option ℤ) (P : List Event) → suc (length P) ≤ length H → upto (length (Got u x w v ∷ P)) H ≡ Got u x w v ∷ P
    → GotAt H (length P) u x w v
suffix_got H u x w v P h q = record { place = h; is = q ∙ ap (λ (Q : List Event). Got u x w v ∷ Q) (sym (suffix_next H (Got u x w v) P q)) }

all_well : (S : Setup) (a : TreeFacts S) (R : List (Cell × ℤ)) (H : List Event) (t : ℕ) → Lawful S H → ((n : ℕ) → NodeLaw S H n) → ((j : ℕ) → IsOrdered S (upto j H)) → Commits H t → (P : List Event)
    → ReadsRows R P → length P ≤ length H → upto (length P) H ≡ P →
    AllReadWell (Commits H) (serially S H) H (row_of R) t P
unfolding ReadsRows
all_well S a R H t l law ord c [] rr h q = tt
all_well S a R H t l law ord c (Got u x w v ∷ P) rr h q = (
  (λ e. let y = eqb-true u.0 t e in subst₂ (λ (z : ℕ) (Q : List Event). ReadWell (Commits H) (serially S H) (λ b. last_put H b x) z (row_of R x) (last_put Q z x) v) y (suffix_next H (Got u x w v) P q)
      (got_well S a R H (length P) u x w v rr.0 l law ord (suffix_got H u x w v P h q) (subst (Commits H) (sym y) c))),
  all_well S a R H t l law ord c P rr.1 (omega arith) (suffix_next H (Got u x w v) P q),
)
all_well S a R H t l law ord c (Began u s k inst ∷ P) rr h q = all_well S a R H t l law ord c P rr (omega arith) (suffix_next H (Began u s k inst) P q)
all_well S a R H t l law ord c (Put u x v ∷ P) rr h q = all_well S a R H t l law ord c P rr (omega arith) (suffix_next H (Put u x v) P q)
all_well S a R H t l law ord c (Ready u ∷ P) rr h q = all_well S a R H t l law ord c P rr (omega arith) (suffix_next H (Ready u) P q)
all_well S a R H t l law ord c (Done u ∷ P) rr h q = all_well S a R H t l law ord c P rr (omega arith) (suffix_next H (Done u) P q)
all_well S a R H t l law ord c (Gone u b ∷ P) rr h q = all_well S a R H t l law ord c P rr (omega arith) (suffix_next H (Gone u b) P q)
all_well S a R H t l law ord c (Told u ∷ P) rr h q = all_well S a R H t l law ord c P rr (omega arith) (suffix_next H (Told u) P q)

-- running the serial order leaves the final table
pub final_right : (X : Store) (a : TreeFacts X.setup) (H : List Event) → Lawful X.setup H → ((n : ℕ) → NodeLaw X.setup H n) → IsOrdered X.setup H → (x : Cell)
    → table_after H (serial_order X.setup H) (row_of X.rows) x ≡ final_table X H x
unfolding final_table
final_right X a H l law ord x = go (latest X.setup H x ws) refl
  where
    ws : List ℕ
    ws = filter (λ w. committed H w && wrote H w x) (txns H)

    member : (w : ℕ) → In w ws → Writes H x w × Commits H w
    member w i = let p = and_parts _ _ (filter-In (λ w. committed H w && wrote H w x) w (txns H) i).1 in let c = commits_from H w p.0 in
        (commits_writes X.setup H x w l c (unfold wrote in ltb-true _ _ p.1), c)

    inside : (w : ℕ) → Commits H w → put_at H w x < length H → In w ws
    inside w c p = In-filter (λ w. committed H w && wrote H w x) w (txns H) (In-txns X.setup H w l (let z = commits X.setup H w l c in omega arith))
        (and_from _ _ (committed_from H w c) (unfold wrote in lt-ltb _ _ p))

    go : (o : Option ℕ) → latest X.setup H x ws ≡ o → table_after H (serial_order X.setup H) (row_of X.rows) x ≡ value_of X H x o
    go (Some w) e =
        let r = latest-some X.setup H x ws w e in
        let m = member w r.0 in
        let n = last_put-some H w x m.0.put in
        left_last (Commits H) (serially X.setup H) (serial_strict X.setup a H l) H (row_of X.rows) (serial_order X.setup H) x w n.0 (order_each X.setup a H l) (order_all X.setup a H l)
        (order_sorted X.setup a H l) m.1 n.1
        (λ b cb. elim (cases_lt (put_at H b x) (length H)) [
          | inr k ↦ inl (last_put-none H b x k)
          | inl k ↦ elim (cases_eq b w) [
            | inl z ↦ inr (inl z)
            | inr z ↦ elim (precedes_total X.setup a H x b w l (commits_writes X.setup H x b l cb k) m.0 z) [
              | inl y ↦ inr (inr (lt_writes X.setup a H b w x l law cb m.1 z k m.0.put y))
              | inr y ↦ absurd (both_ways _ (r.1 b (inside b cb k)) y)
            ]
          ]
        ])
        ∙ sym (ap (λ (z : Option (Option ℤ)). unwrap_or z None) n.1)
    go None e = left_row (Commits H) H (row_of X.rows) (serial_order X.setup H) x (order_each X.setup a H l) (λ b cb. elim (cases_lt (put_at H b x) (length H)) [
      | inr k ↦ last_put-none H b x k
      | inl k ↦ absurd (latest-none X.setup H x ws b (λ z i. precedes_irreflexive X.setup H x z) (λ u v w i j k. ord x u v w (member u i).0 (member v j).0 (member w k).0) e (inside b cb k))
    ])

-- an event by which t reads from w is a Got of t from w
from_is : (t w : ℕ) (e : Event) → is_from t w e ≡ true → (x : Cell) × (v : Option ℤ) × (e ≡ Got (record { 0 = t }) x (record { 0 = w }) v) × (t ≢ w)
from_is t w (Got s y u v) h =
    let p = and_parts _ _ h in
    let q = and_parts _ _ p.0 in
    (y, v, ap₂ (λ (a b : Txn). Got a y b v) (same_txn s t (eqb-true s.0 t q.0)) (same_txn u w (eqb-true u.0 w q.1)), eqb-false t w (not-true _ p.1))
from_is t w _ h = absurd (cc)

pub read_recoverable : (S : Setup) (a : TreeFacts S) (H : List Event) (t w : ℕ) → Lawful S H → Commits H t → 0 < w → (P : List Event) → length P ≤ length H → upto (length P) H ≡ P
    → list_any (is_from t w) P ≡ true → done_at H w < done_at H t
read_recoverable S a H t w l c z [] h q i = absurd (cc)
read_recoverable S a H t w l c z (e ∷ P) h q i = elim (or_cases (is_from t w e) (list_any (is_from t w) P) i) [
  | inl f ↦ (let r = from_is t w e f in go r.0 r.1 r.2 r.3)
  | inr j ↦ read_recoverable S a H t w l c z P (omega arith) (suffix_next H e P q) j
]
  where
    go : (x : Cell) (v : Option ℤ) → e ≡ Got (record { 0 = t }) x (record { 0 = w }) v → t ≢ w → done_at H w < done_at H t
    go x v r ne =
        let k = length P in
        let g : GotAt H k (record { 0 = t }) x (record { 0 = w }) v = record { place = h; is = q ∙ ap₂ (λ (f : Event) (Q : List Event). f ∷ Q) r (sym (suffix_next H e P q)) } in
        elim (got_case S H k (record { 0 = t }) x (record { 0 = w }) v l g).1 [
          | from_own p o ↦ absurd (ne (sym o))
          | from_row p o y ↦ absurd (omega arith)
          | from_seen p o ↦ read_done S a H k (record { 0 = t }) x (record { 0 = w }) v l g c (seen_at S H k t x w l (let y : k ≤ length H = omega arith in y) o)
        ]

-- if every node keeps its law and versions are ordered, the serial order serializes the history
pub serializes : (X : Store) (a : TreeFacts X.setup) (H : List Event) → Lawful X.setup H → ReadsRows X.rows H → ((n : ℕ) → NodeLaw X.setup H n) → ((j : ℕ) → IsOrdered X.setup (upto j H))
    → Serializes X H (serial_order X.setup H)
serializes X a H l rr law ord =
    let s = serial_strict X.setup a H l in
    let each = order_each X.setup a H l in
    let sorted = order_sorted X.setup a H l in
    record {
      each = λ t. ((λ i. committed_from H t (each t i)), (λ c. order_all X.setup a H l t (commits_from H t c)));
      once = Pairs-weaker (λ t u. serially X.setup H t u ≡ true) (λ t u. t ≢ u) _ (λ t u i j h e. both_ways _ (s.irreflexive u (each u j)) (subst (λ (z : ℕ). serially X.setup H z u ≡ true) e h))
          sorted;
      reads = replays (Commits H) (serially X.setup H) s H (row_of X.rows) (serial_order X.setup H) each (order_all X.setup a H l) sorted
          (λ t c. all_well X.setup a X.rows H t l law ord c H rr (le_refl _) (upto_all (length H) H (le_refl _)));
      final = final_right X a H l law (subst (IsOrdered X.setup) (upto_all (length H) H (le_refl _)) (ord (length H)));
      nodes = λ n t u ct cu m r. let c = commits_from H t ct in let d = commits_from H u cu in
          stands_sorted (serially X.setup H) (Commits H) s (serial_order X.setup H) t u each sorted (order_all X.setup a H l t c) (order_all X.setup a H l u d)
          (serial_from_rank X.setup a H n t u l c d m r);
      recoverable = λ t w ct rf z. read_recoverable X.setup a H t w l (commits_from H t ct) z H (le_refl _) (upto_all (length H) H (le_refl _)) (unfold read_from in rf);
    }
