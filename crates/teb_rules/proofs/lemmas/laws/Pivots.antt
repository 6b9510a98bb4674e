-- Transactions that are prepared or committed hold no pivot: no edges a -> b and c -> d with b and c of one batch.
use Rattle.std.proofs.Common.{◌≡◌, ◌≢◌, ◌⊎◌, ℕ, suc, ◌<◌, ◌≤◌, min, Bool, true, false, cond, ◌||◌, eqb, List, [], ◌∷◌, ◌++◌, Option, Some, None, refl}
use Rattle.std.proofs.Common.{sym, ◌∙◌, ap, subst, subst₂, inl, inr, arith, ℤ, length, ltb-true, lt-ltb, le_refl, eqb-true, eq-eqb, find, filter}
use Rattle.std.proofs.lemmas.Bool.{cases_lt, both_ways, cases_order, cases_eq, and_parts, and_from, or_cases, or_left, or_right}
use Rattle.teb_rules.specs.declared.names.Txn.{Txn}
use Rattle.teb_rules.specs.declared.names.Cell.{Cell}
use Rattle.teb_rules.specs.declared.history.Event.{Event}
use Rattle.teb_rules.specs.declared.history.Event.TheVariants.{Began, Got, Put, Ready, Done, Gone, Told}
use Rattle.teb_rules.specs.declared.names.ControlKind.{ControlKind}
use Rattle.teb_rules.specs.declared.names.ControlKind.TheVariants.{Snapshot}
use Rattle.teb_rules.specs.history.Accesses.{is_put, put_at, wrote}
use Rattle.teb_rules.specs.history.Phases.{txns, committed, is_done, began_at, done_at, gone_at, unfinished, ready_at, is_ready, prepared}
use Rattle.teb_rules.specs.history.Positions.{upto, newest, first_event}
use Rattle.teb_rules.proofs.lemmas.history.Chains.{length-upto, upto-upto}
use Rattle.teb_rules.specs.laws.Lawful.{Granted, Lawful, MayPrepare}
use Rattle.teb_rules.specs.laws.TreeFacts.{TreeFacts}
use Rattle.teb_rules.specs.Batches.{start, close, concurrent, one_batch}
use Rattle.teb_rules.specs.Controls.{validate, at_stake, edges, quads, edge, reads_past, pivot_break}
use Rattle.teb_rules.specs.Serializes.{In}
use Rattle.teb_rules.specs.Setup.{Setup}
use Rattle.teb_rules.specs.Tree.{row, on, meets}
use Rattle.teb_rules.specs.declared.Verdict.TheVariants.{Go}
use Rattle.teb_rules.specs.Versions.{precedes}
use Rattle.teb_rules.proofs.lemmas.laws.Positions.{upto_all, upto_cons, first-upto}
use Rattle.teb_rules.proofs.lemmas.laws.Timeline.{Lawful-upto, granted_at, unfinished-upto, upto-unfinished, begun_there, put_order}
use Rattle.teb_rules.proofs.lemmas.laws.Timeline.{begun_counted, on-upto, side-upto, meets-upto, wrote-upto, committed-upto, event_first}
use Rattle.teb_rules.proofs.lemmas.laws.Locks.{In-txns}
use Rattle.teb_rules.proofs.lemmas.laws.Nodes.{meets_parts}
use Rattle.teb_rules.proofs.lemmas.laws.Ranks.{commits, start-upto}
use Rattle.teb_rules.proofs.lemmas.laws.Serial.{Commits, In-filter, filter-In, commits_from}
use Rattle.teb_rules.proofs.lemmas.laws.ReadRule.{GotAt, from_own, from_seen, from_row, got_case}
use Rattle.teb_rules.proofs.lemmas.laws.VersionOrder.{precedes_row, precedes_irreflexive}
use Rattle.teb_rules.proofs.lemmas.laws.Assembly.{seen_at, wrote_here}
use Rattle.teb_rules.proofs.lemmas.laws.NodeFacts.{precedes-upto, got_time}
use Rattle.teb_rules.proofs.lemmas.laws.Intervals.{interval}
use Rattle.teb_rules.proofs.lemmas.laws.Ranks.{commit_free}
use Rattle.teb_rules.proofs.lemmas.laws.Timeline.{put_granted}
use Rattle.std.proofs.Common.{flat_map, map}
use Rattle.teb_rules.proofs.lemmas.laws.Timeline.{tag_ready, tag_put, apart}
use Rattle.teb_rules.proofs.lemmas.laws.Assembly.{suffix_next, suffix_got}
use Rattle.teb_rules.proofs.lemmas.laws.SnapshotWrites.{close-upto}

-- x is an element of xs
abbrev pub Has : {X : Type 0} → List X → X → Type 0
Has [] x = ⊥
Has (y ∷ ys) x = (y ≡ x) ⊎ Has ys x

Has-append_left : {X : Type 0} (xs ys : List X) (x : X) → Has xs x → Has (xs ++ ys) x
Has-append_left [] ys x h = absurd h
Has-append_left (z ∷ zs) ys x h = elim h [ inl e ↦ inl e | inr j ↦ inr (Has-append_left zs ys x j) ]

Has-append_right : {X : Type 0} (xs ys : List X) (x : X) → Has ys x → Has (xs ++ ys) x
Has-append_right [] ys x h = h
Has-append_right (z ∷ zs) ys x h = inr (Has-append_right zs ys x h)

Has-map : {X Y : Type 0} (f : X → Y) (xs : List X) (x : X) → Has xs x → Has (map f xs) (f x)
Has-map f [] x h = absurd h
Has-map f (z ∷ zs) x h = elim h [ inl e ↦ inl (ap f e) | inr j ↦ inr (Has-map f zs x j) ]

Has-flat_map : {X Y : Type 0} (f : X → List Y) (xs : List X) (x : X) (y : Y) → Has xs x → Has (f x) y → Has (flat_map f xs) y
Has-flat_map f [] x y h k = absurd h
Has-flat_map f (z ∷ zs) x y h k = elim h [
  | inl e ↦ Has-append_left (f z) (flat_map f zs) y (subst (λ w. Has (f w) y) (sym e) k)
  | inr j ↦ Has-append_right (f z) (flat_map f zs) y (Has-flat_map f zs x y j k)
]

Has-In : (us : List ℕ) (u : ℕ) → In u us → Has us u
Has-In [] u i = absurd i
Has-In (v ∷ vs) u i = elim i [ inl e ↦ inl e | inr j ↦ inr (Has-In vs u j) ]

find_none_has : {X : Type 0} (p : X → Bool) (xs : List X) (x : X) → find p xs ≡ None → Has xs x → p x ≡ false
find_none_has p [] x e h = absurd h
find_none_has p (z ∷ zs) x e h = go (p z) refl e (find_none_has p zs x)
  where
    go : (b : Bool) → p z ≡ b → cond b (Some z) (find p zs) ≡ None → (find p zs ≡ None → Has zs x → p x ≡ false) → p x ≡ false
    go true q k ih = absurd (cc)
    go false q k ih = elim h [ inl r ↦ ap p (sym r) ∙ q | inr j ↦ ih k j ]

-- the position at which t was first validated with success: its Ready, or else its Done
unfoldable pub vouched_at : List Event → ℕ → ℕ
vouched_at H t = min (ready_at H t) (done_at H t)

-- t was validated with success and is not aborted
pub record IsVouched (H : List Event) (t : ℕ) : Type 0 where
  pub vouched : vouched_at H t < length H
  pub stands : length H ≤ gone_at H t

pub vouched_committed : (S : Setup) (H : List Event) (t : ℕ) → Lawful S H → Commits H t → IsVouched H t
unfolding vouched_at
vouched_committed S H t l c = record { vouched = (let z : min (ready_at H t) (done_at H t) < length H = omega arith in z); stands = (commits S H t l c).1 }

pub vouched_prepared : (H : List Event) (t : ℕ) → prepared H t ≡ true → IsVouched H t
unfolding vouched_at prepared
vouched_prepared H t p =
    let q = and_parts _ _ p in
    let r = ltb-true _ _ q.1 in
    let u = unfinished-upto H (length H) t (le_refl _) (ap (λ (Q : List Event). unfinished Q t) (upto_all (length H) H (le_refl _)) ∙ q.0) in
    record { vouched = (let z : min (ready_at H t) (done_at H t) < length H = omega arith in z); stands = u.2 }

ready_may : (S : Setup) (P : List Event) (e : Event) (t : ℕ) → is_ready t e ≡ true → Granted S P e → MayPrepare S P t
ready_may S P (Ready u) t p g = subst (λ (i : ℕ). MayPrepare S P i) (eqb-true u.0 t p) g
ready_may S P _ t p g = absurd (cc)

ready_granted : (S : Setup) (H : List Event) (t : ℕ) → Lawful S H → ready_at H t < length H → MayPrepare S (upto (ready_at H t) H) t
unfolding ready_at
ready_granted S H t l h = let f = event_first (is_ready t) H h in ready_may S _ f.event t f.passes (granted_at S H (first_event (is_ready t) H) f.event l f.is)

pub ready-upto : (H : List Event) (i t : ℕ) → i ≤ length H → ready_at (upto i H) t ≡ min i (ready_at H t)
unfolding ready_at first_event
ready-upto H i t h = first-upto (newest (is_ready t)) i H h

pub prepared_from : (H : List Event) (i t : ℕ) → i ≤ length H → began_at H t < i → i ≤ done_at H t → i ≤ gone_at H t → ready_at H t < i → prepared (upto i H) t ≡ true
unfolding prepared
prepared_from H i t h b d g r = and_from _ _ (upto-unfinished H i t h b d g) (lt-ltb _ _ (rw (ready-upto H i t h, length-upto i H h) (let z : min i (ready_at H t) < i = omega arith in z)))

-- while a transaction is unfinished and not prepared, its Ready has not occurred
unready : (H : List Event) (i t : ℕ) → i ≤ length H → unfinished (upto i H) t ≡ true → prepared (upto i H) t ≡ false → i ≤ ready_at H t
unready H i t h u p = let q = unfinished-upto H i t h u in elim (cases_lt (ready_at H t) i) [
  | inl r ↦ absurd (both_ways _ p (prepared_from H i t h q.0 q.1 q.2 r))
  | inr r ↦ r
]

put_unready : (H : List Event) (t : ℕ) (x : Cell) → put_at H t x < length H → put_at H t x ≢ ready_at H t
unfolding put_at ready_at
put_unready H t x h = apart (is_put t x) (is_ready t) H (λ e p q. let i = tag_put t x e p in let j = tag_ready t e q in omega arith) h

pub put_vouched : (S : Setup) (H : List Event) (t : ℕ) (x : Cell) → Lawful S H → put_at H t x < length H → put_at H t x < vouched_at H t
unfolding vouched_at
put_vouched S H t x l h =
    let g = put_granted S H t x l h in
    let o = put_order S H t x l h in
    let r = unready H (put_at H t x) t (let z : put_at H t x ≤ length H = omega arith in z) g.unfinished g.unprepared in
    let d = put_unready H t x h in let y = o.1 in
    omega arith

got_not_ready : (H : List Event) (i : ℕ) (t : Txn) (x : Cell) (w : Txn) (v : Option ℤ) → GotAt H i t x w v → i ≢ ready_at H t.0
unfolding ready_at
got_not_ready H i t x w v g e =
    let f = event_first (is_ready t.0) H (subst (λ (z : ℕ). z < length H) e g.place) in
    both_ways (is_ready t.0 (Got t x w v)) refl (ap (newest (is_ready t.0)) (sym g.is ∙ ap (λ (z : ℕ). upto (suc z) H) e ∙ f.is) ∙ f.passes)

pub got_vouched : (S : Setup) (H : List Event) (i : ℕ) (t : Txn) (x : Cell) (w : Txn) (v : Option ℤ) → Lawful S H → GotAt H i t x w v → i < vouched_at H t.0
unfolding vouched_at
got_vouched S H i t x w v l g =
    let k : i < done_at H t.0 = elim (cases_lt (done_at H t.0) (length H)) [ inl c ↦ (got_time S H i t x w v l g c).2 | inr c ↦ (let z = g.place in omega arith) ] in
    let m = (got_case S H i t x w v l g).0 in
    let r = unready H i t.0 (let z = g.place in let y : i ≤ length H = omega arith in y) m.unfinished m.unprepared in
    let d = got_not_ready H i t x w v g in
    omega arith

pub vouched_time : (S : Setup) (H : List Event) (t : ℕ) → Lawful S H → IsVouched H t → (began_at H t < vouched_at H t) × (vouched_at H t ≤ done_at H t)
unfolding vouched_at
vouched_time S H t l v =
    let h : min (ready_at H t) (done_at H t) < length H = v.vouched in
    let d : done_at H t < length H → began_at H t < done_at H t = λ c. (commits S H t l c).0 in
    let r : ready_at H t < length H
    → began_at H t < ready_at H t = λ c. (unfinished-upto H (ready_at H t) t (let z : ready_at H t ≤ length H = omega arith in z) (ready_granted S H t l c).unfinished).0 in
    elim (cases_lt (ready_at H t) (length H)) [
      | inl c ↦ (let a = r c in elim (cases_lt (done_at H t) (length H)) [ inl e ↦ (let b = d e in (omega arith, omega arith)) | inr e ↦ (omega arith, omega arith) ])
      | inr c ↦ (let e : done_at H t < length H = omega arith in let b = d e in (omega arith, omega arith))
    ]

pub vouched_valid : (S : Setup) (H : List Event) (n t : ℕ) → Lawful S H → IsVouched H t → on S H n t ≡ true → validate (row S.tree n).control S (upto (vouched_at H t) H) n t ≡ Go
vouched_valid S H n t l v o = elim (cases_lt (ready_at H t) (done_at H t)) [
  | inl r ↦ (let q : vouched_at H t ≡ ready_at H t = unfold vouched_at in (let z : min (ready_at H t) (done_at H t) ≡ ready_at H t = omega arith in z) in
      let h : ready_at H t < length H = subst (λ (z : ℕ). z < length H) q v.vouched in
      let m = ready_granted S H t l h in
      let b = (unfinished-upto H (ready_at H t) t (let z : ready_at H t ≤ length H = omega arith in z) m.unfinished).0 in
      rw q (m.free n (on-upto S H (ready_at H t) n t l (let z : ready_at H t ≤ length H = omega arith in z) b ∙ o)))
  | inr r ↦ (let q : vouched_at H t ≡ done_at H t = unfold vouched_at in (let z : min (ready_at H t) (done_at H t) ≡ done_at H t = omega arith in z) in
      let c : Commits H t = subst (λ (z : ℕ). z < length H) q v.vouched in
      rw q (commit_free S H n t t l c o (commits S H t l c).0).1)
]

vouched_ready : (H : List Event) (u i : ℕ) → vouched_at H u < i → i ≤ done_at H u → ready_at H u < i
unfolding vouched_at
vouched_ready H u i v d = omega arith

-- a transaction that was validated before s is at stake when s is validated
stake : (S : Setup) (H : List Event) (s u : ℕ) → Lawful S H → IsVouched H s → IsVouched H u → (u ≡ s) ⊎ (vouched_at H u < vouched_at H s) → In u (at_stake (upto (vouched_at H s) H) s)
unfolding at_stake
stake S H s u l cs cu o =
    let i = vouched_at H s in
    let ts = vouched_time S H s l cs in
    let h : i ≤ length H = (let z = cs.vouched in omega arith) in
    elim o [
      | inl e ↦ In-filter _ u (txns (upto i H)) (In-txns S (upto i H) u (Lawful-upto S H i l) (begun_there H i u h (subst (λ (z : ℕ). began_at H z < i) (sym e) ts.0)))
          (or_left _ _ (or_left _ _ (eq-eqb u s e)))
      | inr v ↦ (let tu = vouched_time S H u l cu in
          let bu : began_at H u < i = omega arith in
          In-filter _ u (txns (upto i H)) (In-txns S (upto i H) u (Lawful-upto S H i l) (begun_there H i u h bu))
          (elim (cases_lt (done_at H u) i) [
            | inl d ↦ or_right _ _ (committed-upto H i u h ∙ lt-ltb _ _ d)
            | inr d ↦ or_left _ _ (or_right _ _ (prepared_from H i u h bu d (let z = cu.stands in let y : i ≤ gone_at H u = omega arith in y) (vouched_ready H u i v d)))
          ]))
    ]

vouches : ℕ → Event → Bool
vouches t (Ready u) = eqb u.0 t
vouches t (Done u) = eqb u.0 t
vouches t _ = false

vouches_one : (e : Event) (t u : ℕ) → vouches t e ≡ true → vouches u e ≡ true → t ≡ u
unfolding vouches
vouches_one (Ready s) t u h k = sym (eqb-true s.0 t h) ∙ eqb-true s.0 u k
vouches_one (Done s) t u h k = sym (eqb-true s.0 t h) ∙ eqb-true s.0 u k
vouches_one _ t u h k = absurd (cc)

ready_vouches : (e : Event) (t : ℕ) → is_ready t e ≡ true → vouches t e ≡ true
unfolding vouches
ready_vouches (Ready u) t h = h
ready_vouches _ t h = absurd (cc)

done_vouches : (e : Event) (t : ℕ) → is_done t e ≡ true → vouches t e ≡ true
unfolding vouches
done_vouches (Done u) t h = h
done_vouches _ t h = absurd (cc)

vouch_event : (H : List Event) (t : ℕ) → IsVouched H t → newest (vouches t) (upto (suc (vouched_at H t)) H) ≡ true
unfolding vouched_at ready_at done_at
vouch_event H t v =
    let h : min (first_event (is_ready t) H) (first_event (is_done t) H) < length H = v.vouched in
    elim (cases_lt (first_event (is_ready t) H) (first_event (is_done t) H)) [
      | inl r ↦ (let q : min (first_event (is_ready t) H) (first_event (is_done t) H) ≡ first_event (is_ready t) H = omega arith in
          let f = event_first (is_ready t) H (omega arith) in rw q (ap (newest (vouches t)) f.is ∙ ready_vouches f.event t f.passes))
      | inr r ↦ (let q : min (first_event (is_ready t) H) (first_event (is_done t) H) ≡ first_event (is_done t) H = omega arith in
          let f = event_first (is_done t) H (omega arith) in rw q (ap (newest (vouches t)) f.is ∙ done_vouches f.event t f.passes))
    ]

newest_one : (Q : List Event) (t u : ℕ) → newest (vouches t) Q ≡ true → newest (vouches u) Q ≡ true → t ≡ u
newest_one [] t u h k = absurd (cc)
newest_one (e ∷ P) t u h k = vouches_one e t u h k

vouched_once : (H : List Event) (t u : ℕ) → IsVouched H t → IsVouched H u → vouched_at H t ≡ vouched_at H u → t ≡ u
vouched_once H t u c d e = newest_one (upto (suc (vouched_at H u)) H) t u (subst (λ (z : ℕ). newest (vouches t) (upto (suc z) H) ≡ true) e (vouch_event H t c)) (vouch_event H u d)

vouched_le : (H : List Event) (t u : ℕ) → IsVouched H t → IsVouched H u → vouched_at H t ≤ vouched_at H u → (t ≡ u) ⊎ (vouched_at H t < vouched_at H u)
vouched_le H t u c d h = elim (cases_order (vouched_at H t) (vouched_at H u)) [ inl e ↦ inl (vouched_once H t u c d e) | inr o ↦ elim o [ inl r ↦ inr r | inr r ↦ absurd (omega arith) ] ]

-- a Got of a, of a version that b's version follows
pub record PastRead (S : Setup) (H : List Event) (a b : ℕ) : Type 0 where
  pub place : ℕ
  pub txn : Txn
  pub cell : Cell
  pub from : Txn
  pub value : Option ℤ
  pub is : GotAt H place txn cell from value
  pub reader : txn.0 ≡ a
  pub put : put_at H b cell < length H
  pub follows : precedes S H cell from.0 b ≡ true

put_of : (H : List Event) (b : ℕ) (x : Cell) → wrote H b x ≡ true → put_at H b x < length H
unfolding wrote
put_of H b x h = ltb-true _ _ h

-- the version that is read is the starting row, or existed before the read
pub from_there : (S : Setup) (H : List Event) (i : ℕ) (t : Txn) (x : Cell) (w : Txn) (v : Option ℤ) → Lawful S H → GotAt H i t x w v → (w.0 ≡ 0) ⊎ ((put_at H w.0 x < i) × (began_at H w.0 < i))
from_there S H i t x w v l g =
    let h : i ≤ length H = (let z = g.place in omega arith) in
    elim (got_case S H i t x w v l g).1 [
      | from_own p o ↦ (let q = wrote_here H i t.0 x h p in let b = (put_order S H t.0 x l (let z = g.place in omega arith)).0 in
          inr (subst (λ (z : ℕ). (put_at H z x < i) × (began_at H z < i)) (sym o) (q, (let z : began_at H t.0 < i = omega arith in z))))
      | from_row p o y ↦ inl y
      | from_seen p o ↦ (let r = seen_at S H i t.0 x w.0 l h o in inr (r.put, r.began))
    ]

-- so if b's version follows it in the whole history, it does so at each position after the read
pub follows-upto : (S : Setup) (a : TreeFacts S) (H : List Event) (i j : ℕ) (t : Txn) (x : Cell) (w : Txn) (v : Option ℤ) (b : ℕ) → Lawful S H → GotAt H i t x w v → i ≤ j → j ≤ length H → 0 < b
    → began_at H b < j → precedes S H x w.0 b ≡ true → precedes S (upto j H) x w.0 b ≡ true
follows-upto S a H i j t x w v b l g ij h pos bb e = elim (from_there S H i t x w v l g) [
  | inl z ↦ subst (λ (y : ℕ). precedes S (upto j H) x y b ≡ true) (sym z) (precedes_row S (upto j H) x b pos)
  | inr r ↦ elim (cases_eq w.0 b) [
    | inl q ↦ absurd (both_ways _ (precedes_irreflexive S H x b) (subst (λ (z : ℕ). precedes S H x z b ≡ true) q e))
    | inr q ↦ precedes-upto S a H j x w.0 b l h (let z = r.1 in omega arith) bb (let z = r.0 in omega arith) q ∙ e
  ]
]

past_is : (S : Setup) (H : List Event) (a b : ℕ) (P : List Event) → length P ≤ length H → upto (length P) H ≡ P → reads_past S H P a b ≡ true → PastRead S H a b
unfolding reads_past
past_is S H a b [] h q e = absurd (cc)
past_is S H a b (Got u x w v ∷ P) h q e = elim (or_cases _ _ e) [
  | inl f ↦ (let p = and_parts _ _ f in let r = and_parts _ _ p.0 in record {
    place = length P;
    txn = u;
    cell = x;
    from = w;
    value = v;
    is = suffix_got H u x w v P h q;
    reader = eqb-true u.0 a r.0;
    put = put_of H b x r.1;
    follows = p.1;
  })
  | inr f ↦ past_is S H a b P (omega arith) (suffix_next H (Got u x w v) P q) f
]
past_is S H a b (Began u s k inst ∷ P) h q e = past_is S H a b P (omega arith) (suffix_next H (Began u s k inst) P q) e
past_is S H a b (Put u x v ∷ P) h q e = past_is S H a b P (omega arith) (suffix_next H (Put u x v) P q) e
past_is S H a b (Ready u ∷ P) h q e = past_is S H a b P (omega arith) (suffix_next H (Ready u) P q) e
past_is S H a b (Done u ∷ P) h q e = past_is S H a b P (omega arith) (suffix_next H (Done u) P q) e
past_is S H a b (Gone u c ∷ P) h q e = past_is S H a b P (omega arith) (suffix_next H (Gone u c) P q) e
past_is S H a b (Told u ∷ P) h q e = past_is S H a b P (omega arith) (suffix_next H (Told u) P q) e

past_step : (S : Setup) (Q : List Event) (e : Event) (P : List Event) (a b : ℕ) → reads_past S Q P a b ≡ true → reads_past S Q (e ∷ P) a b ≡ true
unfolding reads_past
past_step S Q (Got u x w v) P a b h = or_right _ (reads_past S Q P a b) h
past_step S Q (Began u s k inst) P a b h = h
past_step S Q (Put u x v) P a b h = h
past_step S Q (Ready u) P a b h = h
past_step S Q (Done u) P a b h = h
past_step S Q (Gone u c) P a b h = h
past_step S Q (Told u) P a b h = h

past_here : (S : Setup) (Q P : List Event) (t : Txn) (x : Cell) (w : Txn) (v : Option ℤ) (b : ℕ) → wrote Q b x ≡ true → precedes S Q x w.0 b ≡ true → reads_past S Q (Got t x w v ∷ P) t.0 b ≡ true
unfolding reads_past
past_here S Q P t x w v b p q = or_left _ (reads_past S Q P t.0 b) (and_from _ _ (and_from _ _ (eq-eqb t.0 t.0 refl) p) q)

pub past_at : (S : Setup) (Q P : List Event) (i : ℕ) (t : Txn) (x : Cell) (w : Txn) (v : Option ℤ) (b : ℕ) → i < length P → upto (suc i) P ≡ Got t x w v ∷ upto i P → wrote Q b x ≡ true
    → precedes S Q x w.0 b ≡ true → reads_past S Q P t.0 b ≡ true
past_at S Q [] i t x w v b h is p q = absurd (omega arith)
past_at S Q (e ∷ P) i t x w v b h is p q = elim (cases_lt i (length P)) [
  | inl r ↦ past_step S Q e P t.0 b
      (past_at S Q P i t x w v b r (sym (upto_cons (suc i) e P r) ∙ is ∙ ap (λ (R : List Event). Got t x w v ∷ R) (upto_cons i e P (let z : i ≤ length P = omega arith in z))) p q)
  | inr r ↦ subst (λ (R : List Event). reads_past S Q R t.0 b ≡ true) (sym is ∙ upto_all (suc i) (e ∷ P) (let z : suc (length P) ≤ suc i = omega arith in z))
      (past_here S Q (upto i (e ∷ P)) t x w v b p q)
]

pub edge_parts : (S : Setup) (H : List Event) (n a b : ℕ) → edge S H n a b ≡ true → (meets S H n a b ≡ true) × (start S H n a < close S H n b) × (start S H n b < close S H n a)
    × (reads_past S H H a b ≡ true)
unfolding edge concurrent
edge_parts S H n a b h = let p = and_parts _ _ h in let q = and_parts _ _ p.0 in let r = and_parts _ _ q.1 in (q.0, ltb-true _ _ r.0, ltb-true _ _ r.1, p.1)

pub edge_from : (S : Setup) (H : List Event) (n a b : ℕ) → meets S H n a b ≡ true → start S H n a < close S H n b → start S H n b < close S H n a → reads_past S H H a b ≡ true → edge S H n a b ≡ true
unfolding edge concurrent
edge_from S H n a b m p q r = and_from _ _ (and_from _ _ m (and_from _ _ (lt-ltb _ _ p) (lt-ltb _ _ q))) r

-- an edge between two validated transactions exists as soon as both are validated
edge-upto : (S : Setup) (a : TreeFacts S) (H : List Event) (i n u w : ℕ) → Lawful S H → i ≤ length H → IsVouched H u → IsVouched H w → vouched_at H u ≤ i → vouched_at H w ≤ i → edge S H n u w ≡ true
    → edge S (upto i H) n u w ≡ true
edge-upto S a H i n u w l h cu cw vu vw e =
    let p = edge_parts S H n u w e in
    let tu = vouched_time S H u l cu in
    let tw = vouched_time S H w l cw in
    let bu : began_at H u < i = omega arith in
    let bw : began_at H w < i = omega arith in
    let k = meets_parts S H n u w p.0 in
    let iu = (interval S H n u l (let z : began_at H u < length H = omega arith in z) k.0).by_began in
    let iw = (interval S H n w l (let z : began_at H w < length H = omega arith in z) k.1).by_began in
    let x1 = p.1 in let x2 = p.2 in
    let r = past_is S H u w H (le_refl _) (upto_all (length H) H (le_refl _)) p.3 in
    let gv = got_vouched S H r.place r.txn r.cell r.from r.value l r.is in
    let pv = put_vouched S H w r.cell l r.put in
    let j : r.place < i = (let z : vouched_at H r.txn.0 ≡ vouched_at H u = ap (vouched_at H) r.reader in omega arith) in
    let k2 : put_at H w r.cell < i = omega arith in
    edge_from S (upto i H) n u w (meets-upto S H i n u w l h bu bw ∙ p.0)
    (rw (start-upto S H i n u l h bu, close-upto S H i n w l h bw) (let z : start S H n u < min i (close S H n w) = omega arith in z))
    (rw (start-upto S H i n w l h bw, close-upto S H i n u l h bu) (let z : start S H n w < min i (close S H n u) = omega arith in z))
    (subst (λ (z : ℕ). reads_past S (upto i H) (upto i H) z w ≡ true) r.reader
    (past_at S (upto i H) (upto i H) r.place r.txn r.cell r.from r.value w (let y = length-upto i H h in let z : r.place < length (upto i H) = omega arith in z)
    (upto-upto (suc r.place) i H j ∙ r.is.is ∙ ap (λ (R : List Event). Got r.txn r.cell r.from r.value ∷ R) (sym (upto-upto r.place i H (let z : r.place ≤ i = omega arith in z))))
    (wrote-upto H i w r.cell h ∙ lt-ltb _ _ k2)
    (follows-upto S a H r.place i r.txn r.cell r.from r.value w l r.is (let z : r.place ≤ i = omega arith in z) h (begun_counted S H w l (let z : began_at H w < length H = omega arith in z)).0 bw
    r.follows)))

edges_has : (S : Setup) (P : List Event) (n a b : ℕ) (G : List ℕ) → In a G → In b G → edge S P n a b ≡ true → Has (edges S P n G) (a, b)
unfolding edges
edges_has S P n a b G ia ib e = Has-flat_map (λ a. map (λ b. (a, b)) (filter (edge S P n a) G)) G a (a, b) (Has-In G a ia)
    (Has-map (λ (b : ℕ). (a, b)) (filter (edge S P n a) G) b (Has-In _ b (In-filter (edge S P n a) b G ib e)))

quads_has : (es : List (ℕ × ℕ)) (e f : ℕ × ℕ) → Has es e → Has es f → Has (quads es) (e, f)
quads_has es e f he hf = Has-flat_map (λ (e : ℕ × ℕ). map (λ (f : ℕ × ℕ). (e, f)) es) es e (e, f) he (Has-map (λ (f : ℕ × ℕ). (e, f)) es f hf)

-- membership in these lists, taken apart
Has-cases : {X : Type 0} (xs ys : List X) (x : X) → Has (xs ++ ys) x → Has xs x ⊎ Has ys x
Has-cases [] ys x h = inr h
Has-cases (z ∷ zs) ys x h = elim h [ inl e ↦ inl (inl e) | inr j ↦ elim (Has-cases zs ys x j) [ inl k ↦ inl (inr k) | inr k ↦ inr k ] ]

pub Has-flat_map_from : {X Y : Type 0} (f : X → List Y) (xs : List X) (y : Y) → Has (flat_map f xs) y → (x : X) × Has xs x × Has (f x) y
Has-flat_map_from f [] y h = absurd h
Has-flat_map_from f (z ∷ zs) y h = elim (Has-cases (f z) (flat_map f zs) y h) [ inl k ↦ (z, inl refl, k) | inr k ↦ (let r = Has-flat_map_from f zs y k in (r.0, inr r.1, r.2)) ]

pub Has-map_from : {X Y : Type 0} (f : X → Y) (xs : List X) (y : Y) → Has (map f xs) y → (x : X) × Has xs x × (f x ≡ y)
Has-map_from f [] y h = absurd h
Has-map_from f (z ∷ zs) y h = elim h [ inl e ↦ (z, inl refl, e) | inr k ↦ (let r = Has-map_from f zs y k in (r.0, inr r.1, r.2)) ]

In-Has : (xs : List ℕ) (x : ℕ) → Has xs x → In x xs
In-Has [] x h = absurd h
In-Has (z ∷ zs) x h = elim h [ inl e ↦ inl e | inr k ↦ inr (In-Has zs x k) ]

pub find_has : {X : Type 0} (p : X → Bool) (xs : List X) (x : X) → find p xs ≡ Some x → Has xs x × (p x ≡ true)
find_has p [] x h = absurd (cc)
find_has p (z ∷ zs) x h = go (p z) refl h (find_has p zs x)
  where
    go : (b : Bool) → p z ≡ b → cond b (Some z) (find p zs) ≡ Some x → (find p zs ≡ Some x → Has zs x × (p x ≡ true)) → Has (z ∷ zs) x × (p x ≡ true)
    go true e k ih = let q : z ≡ x = cc in (inl q, subst (λ y. p y ≡ true) q e)
    go false e k ih = let r = ih k in (inr r.0, r.1)

pub edges_from : (S : Setup) (H : List Event) (n : ℕ) (G : List ℕ) (e : ℕ × ℕ) → Has (edges S H n G) e → In e.0 G × In e.1 G × (edge S H n e.0 e.1 ≡ true)
unfolding edges
edges_from S H n G e h =
    let r = Has-flat_map_from (λ a. map (λ b. (a, b)) (filter (edge S H n a) G)) G e h in
    let s = Has-map_from (λ b. (r.0, b)) (filter (edge S H n r.0) G) e r.2 in
    let f = filter-In (edge S H n r.0) s.0 G (In-Has (filter (edge S H n r.0) G) s.0 s.1) in
    let a : r.0 ≡ e.0 = ap (λ (z : ℕ × ℕ). z.0) s.2 in
    let b : s.0 ≡ e.1 = ap (λ (z : ℕ × ℕ). z.1) s.2 in
    (subst (λ (z : ℕ). In z G) a (In-Has G r.0 r.1), subst (λ (z : ℕ). In z G) b f.0, subst₂ (λ (y z : ℕ). edge S H n y z ≡ true) a b f.1)

pub quads_from : (es : List (ℕ × ℕ)) (q : (ℕ × ℕ) × (ℕ × ℕ)) → Has (quads es) q → Has es q.0 × Has es q.1
quads_from es q h =
    let r = Has-flat_map_from (λ (e : ℕ × ℕ). map (λ (f : ℕ × ℕ). (e, f)) es) es q h in
    let s = Has-map_from (λ (f : ℕ × ℕ). (r.0, f)) es q r.2 in
    (subst (Has es) (ap (λ (z : (ℕ × ℕ) × (ℕ × ℕ)). z.0) s.2) r.1, subst (Has es) (ap (λ (z : (ℕ × ℕ) × (ℕ × ℕ)). z.1) s.2) s.1)

no_pivot_break : (o : Option ((ℕ × ℕ) × (ℕ × ℕ))) → pivot_break o ≡ Go → o ≡ None
no_pivot_break None h = refl
no_pivot_break (Some q) h = absurd (cc)

validated : (S : Setup) (P : List Event) (n s a b c d : ℕ) → validate Snapshot S P n s ≡ Go → In a (at_stake P s) → In b (at_stake P s) → In c (at_stake P s) → In d (at_stake P s)
    → edge S P n a b ≡ true → edge S P n c d ≡ true → one_batch S P n b c ≡ false
unfolding validate
validated S P n s a b c d v ia ib ic id e f =
    find_none_has (λ (q : (ℕ × ℕ) × (ℕ × ℕ)). one_batch S P n q.0.1 q.1.0) _ ((a, b), (c, d)) (no_pivot_break _ v)
    (quads_has (edges S P n (at_stake P s)) (a, b) (c, d) (edges_has S P n a b (at_stake P s) ia ib e) (edges_has S P n c d (at_stake P s) ic id f))

batch-upto : (S : Setup) (H : List Event) (i n b c : ℕ) → Lawful S H → i ≤ length H → began_at H b < i → began_at H c < i → one_batch S (upto i H) n b c ≡ one_batch S H n b c
unfolding one_batch
batch-upto S H i n b c l h bb bc = rw (
  on-upto S H i n b l h bb,
  on-upto S H i n c l h bc,
  side-upto S H i n b l h bb,
  side-upto S H i n c l h bc,
  start-upto S H i n b l h bb,
  start-upto S H i n c l h bc,
) refl

pivot_at : (S : Setup) (a : TreeFacts S) (H : List Event) (n s p q r t : ℕ) → Lawful S H → (row S.tree n).control ≡ Snapshot → IsVouched H s → on S H n s ≡ true → IsVouched H p → IsVouched H q
    → IsVouched H r → IsVouched H t →
    vouched_at H p ≤ vouched_at H s → vouched_at H q ≤ vouched_at H s → vouched_at H r ≤ vouched_at H s → vouched_at H t ≤ vouched_at H s → edge S H n p q ≡ true → edge S H n r t ≡ true
    → one_batch S H n q r ≡ true → ⊥
pivot_at S a H n s p q r t l c cs os cp cq cr ct vp vq vr vt e f b =
    let i = vouched_at H s in
    let h : i ≤ length H = (let z = cs.vouched in omega arith) in
    let v = subst (λ (k : ControlKind). validate k S (upto i H) n s ≡ Go) c (vouched_valid S H n s l cs os) in
    let bq = (vouched_time S H q l cq).0 in
    let br = (vouched_time S H r l cr).0 in
    both_ways _ (validated S (upto i H) n s p q r t v
    (stake S H s p l cs cp (vouched_le H p s cp cs vp)) (stake S H s q l cs cq (vouched_le H q s cq cs vq)) (stake S H s r l cs cr (vouched_le H r s cr cs vr))
    (stake S H s t l cs ct (vouched_le H t s ct cs vt))
    (edge-upto S a H i n p q l h cp cq vp vq e) (edge-upto S a H i n r t l h cr ct vr vt f))
    (batch-upto S H i n q r l h (let z : began_at H q < i = omega arith in z) (let z : began_at H r < i = omega arith in z) ∙ b)

-- validated transactions hold no pivot
pub no_vouched_pivot : (S : Setup) (a : TreeFacts S) (H : List Event) (n p q r t : ℕ) → Lawful S H → (row S.tree n).control ≡ Snapshot → IsVouched H p → IsVouched H q → IsVouched H r → IsVouched H t
    → edge S H n p q ≡ true → edge S H n r t ≡ true → one_batch S H n q r ≡ true → ⊥
no_vouched_pivot S a H n p q r t l c cp cq cr ct e f b =
    let x = meets_parts S H n p q (edge_parts S H n p q e).0 in
    let y = meets_parts S H n r t (edge_parts S H n r t f).0 in
    let go = λ (s : ℕ) (cs : IsVouched H s) (os : on S H n s ≡ true) (u1 : vouched_at H p ≤ vouched_at H s) (u2 : vouched_at H q ≤ vouched_at H s) (u3 : vouched_at H r ≤ vouched_at H s)
    (u4 : vouched_at H t ≤ vouched_at H s).
    pivot_at S a H n s p q r t l c cs os cp cq cr ct u1 u2 u3 u4 e f b in
    elim (cases_lt (vouched_at H p) (vouched_at H q)) [
      | inl pq ↦ elim (cases_lt (vouched_at H r) (vouched_at H t)) [
        | inl rt ↦ elim (cases_lt (vouched_at H q) (vouched_at H t)) [
          | inl qt ↦ go t ct y.1 (omega arith) (omega arith) (omega arith) (omega arith)
          | inr qt ↦ go q cq x.1 (omega arith) (omega arith) (omega arith) (omega arith)
        ]
        | inr rt ↦ elim (cases_lt (vouched_at H q) (vouched_at H r)) [
          | inl qt ↦ go r cr y.0 (omega arith) (omega arith) (omega arith) (omega arith)
          | inr qt ↦ go q cq x.1 (omega arith) (omega arith) (omega arith) (omega arith)
        ]
      ]
      | inr pq ↦ elim (cases_lt (vouched_at H r) (vouched_at H t)) [
        | inl rt ↦ elim (cases_lt (vouched_at H p) (vouched_at H t)) [
          | inl qt ↦ go t ct y.1 (omega arith) (omega arith) (omega arith) (omega arith)
          | inr qt ↦ go p cp x.0 (omega arith) (omega arith) (omega arith) (omega arith)
        ]
        | inr rt ↦ elim (cases_lt (vouched_at H p) (vouched_at H r)) [
          | inl qt ↦ go r cr y.0 (omega arith) (omega arith) (omega arith) (omega arith)
          | inr qt ↦ go p cp x.0 (omega arith) (omega arith) (omega arith) (omega arith)
        ]
      ]
    ]

-- nor do committed ones
pub no_pivot : (S : Setup) (a : TreeFacts S) (H : List Event) (n p q r t : ℕ) → Lawful S H → (row S.tree n).control ≡ Snapshot → Commits H p → Commits H q → Commits H r → Commits H t
    → edge S H n p q ≡ true → edge S H n r t ≡ true → one_batch S H n q r ≡ true → ⊥
no_pivot S a H n p q r t l c cp cq cr ct =
    no_vouched_pivot S a H n p q r t l c (vouched_committed S H p l cp) (vouched_committed S H q l cq) (vouched_committed S H r l cr) (vouched_committed S H t l ct)

-- nor do prepared or committed ones
pub no_stake_pivot : (S : Setup) (a : TreeFacts S) (H : List Event) (n p q r t : ℕ) → Lawful S H → (row S.tree n).control ≡ Snapshot → (prepared H p || committed H p) ≡ true
    → (prepared H q || committed H q) ≡ true →
    (prepared H r || committed H r) ≡ true → (prepared H t || committed H t) ≡ true → edge S H n p q ≡ true → edge S H n r t ≡ true → one_batch S H n q r ≡ true → ⊥
no_stake_pivot S a H n p q r t l c vp vq vr vt = no_vouched_pivot S a H n p q r t l c (vouched p vp) (vouched q vq) (vouched r vr) (vouched t vt)
  where
    vouched : (u : ℕ) → (prepared H u || committed H u) ≡ true → IsVouched H u
    vouched u h = elim (or_cases _ _ h) [ inl p ↦ vouched_prepared H u p | inr d ↦ vouched_committed S H u l (commits_from H u d) ]
