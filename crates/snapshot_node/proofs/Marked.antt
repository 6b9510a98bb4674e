-- The marks after one more event: marks of earlier edges stay, and those of the transaction that the event validates are set.
use Rattle.std.specs.Prelude.{IsTrue}
use Rattle.std.proofs.Common.{◌≡◌, ℕ, zero, suc, ◌<◌, ◌≤◌, min, Bool, true, false, ◌||◌, eqb, ltb, List, [], ◌∷◌, ◌++◌, Some, refl, sym}
use Rattle.std.proofs.Common.{◌∙◌, ap, subst, inl, inr, arith, length, get_or, lt-ltb, le-ltb, ltb-true, length-append, le_refl, eqb-true}
use Rattle.std.proofs.lemmas.Bool.{cases_lt, both_ways, and_parts, and_from, or_cases, or_left, or_right}
use Rattle.teb_rules.specs.declared.names.Txn.{Txn}
use Rattle.teb_rules.specs.declared.names.Cell.{Cell}
use Rattle.teb_rules.specs.names.Cells.{same_cell}
use Rattle.teb_rules.specs.declared.history.Event.{Event}
use Rattle.teb_rules.specs.declared.history.Event.TheVariants.{Got, Ready, Done}
use Rattle.teb_rules.specs.history.Accesses.{is_got, got, got_at, wrote, put_at}
use Rattle.teb_rules.specs.history.Phases.{prepared, committed, aborted, begun, began_at, ready_at, done_at, is_ready, is_done}
use Rattle.teb_rules.specs.history.Positions.{upto, newest, first_event}
use Rattle.teb_rules.specs.Setup.{Setup}
use Rattle.teb_rules.specs.Tree.{meets, on}
use Rattle.teb_rules.specs.Batches.{start, close, concurrent}
use Rattle.teb_rules.specs.laws.Lawful.{Lawful}
use Rattle.teb_rules.specs.laws.Pivots.{IsSettled}
use Rattle.teb_rules.proofs.lemmas.laws.Positions.{upto_all, upto_cons}
use Rattle.teb_rules.proofs.lemmas.laws.Timeline.{Lawful-upto, event_first, wrote-upto, got-upto, meets-upto, committed-upto}
use Rattle.teb_rules.proofs.lemmas.laws.Ranks.{start-upto, commits}
use Rattle.teb_rules.proofs.lemmas.laws.SnapshotWrites.{close-upto}
use Rattle.teb_rules.proofs.lemmas.laws.Serial.{commits_from}
use Rattle.teb_rules.proofs.lemmas.laws.Nodes.{meets_parts}
use Rattle.teb_rules.proofs.lemmas.laws.Intervals.{interval}
use Rattle.teb_rules.proofs.lemmas.laws.Pivots.{IsVouched, vouched_at, vouched_committed, vouched_prepared, vouched_time, prepared_from, put_vouched, got_vouched}
use Rattle.batch_book.proofs.Numbered.{begun_step, unfinished_parts}
use Rattle.phase_api.specs.Calls.{MayNote}
use Rattle.snapshot_node.proofs.Edges.{prepared_runs}
use Rattle.snapshot_node.specs.declared.marks.Mark.{Mark}
use Rattle.snapshot_node.specs.Marks.{no_mark, is_entered, is_left, is_behind, is_ahead, validated_txn, HaveGrown, IsTold, Touches, AreMarked}
use Rattle.snapshot_node.specs.Pivots.{is_at_stake}

-- a transaction that is prepared or committed was validated and is not aborted
vouched : (S : Setup) (H : List Event) (u : ℕ) → Lawful S H → IsSettled H u → IsVouched H u
vouched S H u l h = elim (or_cases (prepared H u) (committed H u) h) [ inl p ↦ vouched_prepared H u p | inr d ↦ vouched_committed S H u l (commits_from H u d) ]

ready_before : (H : List Event) (u i : ℕ) → vouched_at H u < i → i ≤ done_at H u → ready_at H u < i
unfolding vouched_at
ready_before H u i v d = omega arith

-- it has been prepared or committed since then
settled_at : (S : Setup) (H : List Event) (i u : ℕ) → Lawful S H → i ≤ length H → IsVouched H u → vouched_at H u < i → IsSettled (upto i H) u
settled_at S H i u l h v m =
    let b = (vouched_time S H u l v).0 in
    let z = v.stands in
    elim (cases_lt (done_at H u) i) [
      | inl d ↦ or_right (prepared (upto i H) u) _ (committed-upto H i u h ∙ lt-ltb _ _ d)
      | inr d ↦ or_left _ (committed (upto i H) u) (prepared_from H i u h (omega arith) d (omega arith) (ready_before H u i m d))
    ]

got_before : (S : Setup) (H : List Event) (u : ℕ) (x : Cell) → Lawful S H → got H u x ≡ true → got_at H u x < vouched_at H u
unfolding got got_at
got_before S H u x l h = let r = ltb-true _ _ h in let f = event_first (is_got u x) H r in each f.event f.passes f.is r
  where
    each : (e : Event) → is_got u x e ≡ true → upto (suc (first_event (is_got u x) H)) H ≡ e ∷ upto (first_event (is_got u x) H) H → first_event (is_got u x) H < length H
        → first_event (is_got u x) H < vouched_at H u
    each (Got s y w v) p q r = subst (λ (z : ℕ). first_event (is_got u x) H < vouched_at H z) (eqb-true s.0 u (and_parts (eqb s.0 u) (same_cell y x) p).0)
        (got_vouched S H (first_event (is_got u x) H) s y w v l (record { place = r; is = q }))
    each _ p q r = absurd (cc)

put_before : (S : Setup) (H : List Event) (w : ℕ) (x : Cell) → Lawful S H → wrote H w x ≡ true → put_at H w x < vouched_at H w
unfolding wrote
put_before S H w x l h = put_vouched S H w x l (ltb-true _ _ h)

concurrent_before : (S : Setup) (H : List Event) (i n u w : ℕ) → Lawful S H → i ≤ length H → began_at H u < i → began_at H w < i → on S H n u ≡ true → on S H n w ≡ true → concurrent S H n u w ≡ true
    → concurrent S (upto i H) n u w ≡ true
unfolding concurrent
concurrent_before S H i n u w l h bu bw ou ow c =
    let q = and_parts (ltb (start S H n u) (close S H n w)) (ltb (start S H n w) (close S H n u)) c in
    let x = ltb-true (start S H n u) (close S H n w) q.0 in
    let y = ltb-true (start S H n w) (close S H n u) q.1 in
    let iu = (interval S H n u l (let z : began_at H u < length H = omega arith in z) ou).by_began in
    let iw = (interval S H n w l (let z : began_at H w < length H = omega arith in z) ow).by_began in
    let a : start S (upto i H) n u < close S (upto i H) n w = rw (start-upto S H i n u l h bu, close-upto S H i n w l h bw) (let z : start S H n u < min i (close S H n w) = omega arith in z) in
    let b : start S (upto i H) n w < close S (upto i H) n u = rw (start-upto S H i n w l h bw, close-upto S H i n u l h bu) (let z : start S H n w < min i (close S H n u) = omega arith in z) in
    and_from _ _ (lt-ltb _ _ a) (lt-ltb _ _ b)

-- two validated transactions touched each other before
touches_before : (S : Setup) (H : List Event) (i n u w : ℕ) → Lawful S H → i ≤ length H → IsVouched H u → IsVouched H w → vouched_at H u < i → vouched_at H w < i → Touches S H n u w
    → Touches S (upto i H) n u w
touches_before S H i n u w l h cu cw vu vw p =
    let tu = (vouched_time S H u l cu).0 in
    let tw = (vouched_time S H w l cw).0 in
    let bu : began_at H u < i = omega arith in
    let bw : began_at H w < i = omega arith in
    let a = and_parts (meets S H n u w) (concurrent S H n u w) p.across in
    let k = meets_parts S H n u w a.0 in
    let g = got_before S H u p.cell l p.read in
    let q = put_before S H w p.cell l p.put in
    record {
      cell = p.cell;
      read = got-upto H i u p.cell h ∙ lt-ltb _ _ (omega arith);
      put = wrote-upto H i w p.cell h ∙ lt-ltb _ _ (omega arith);
      across = and_from _ _ (meets-upto S H i n u w l h bu bw ∙ a.0) (concurrent_before S H i n u w l h bu bw k.0 k.1 a.1);
    }

here : (q : Event → Bool) (e : Event) (P : List Event) → first_event q (e ∷ P) ≡ length P → q e ≡ true
here q e P h =
    let f = event_first q (e ∷ P) (let z : first_event q (e ∷ P) < suc (length P) = omega arith in z) in
    ap (newest q) (sym (upto_all (suc (length P)) (e ∷ P) (le_refl _)) ∙ sym (ap (λ (i : ℕ). upto (suc i) (e ∷ P)) h) ∙ f.is) ∙ f.passes

by_ready : (e : Event) (u : ℕ) → is_ready u e ≡ true → (t : Txn) × (validated_txn e ≡ Some t) × (t.0 ≡ u)
by_ready (Ready t) u h = (t, refl, eqb-true t.0 u h)
by_ready _ u h = absurd (cc)

by_done : (e : Event) (u : ℕ) → is_done u e ≡ true → (t : Txn) × (validated_txn e ≡ Some t) × (t.0 ≡ u)
by_done (Done t) u h = (t, refl, eqb-true t.0 u h)
by_done _ u h = absurd (cc)

-- a transaction that was validated at the newest event is the one that this event validates
by_newest : (e : Event) (P : List Event) (u : ℕ) → vouched_at (e ∷ P) u ≡ length P → (t : Txn) × (validated_txn e ≡ Some t) × (t.0 ≡ u)
unfolding vouched_at ready_at done_at
by_newest e P u h = elim (cases_lt (first_event (is_ready u) (e ∷ P)) (first_event (is_done u) (e ∷ P))) [
  | inl r ↦ by_ready e u (here (is_ready u) e P (omega arith))
  | inr r ↦ by_done e u (here (is_done u) e P (omega arith))
]

pub stake_settled : (H : List Event) (t u : ℕ) → IsSettled H u → is_at_stake H t u ≡ true
stake_settled H t u h = elim (or_cases (prepared H u) (committed H u) h) [ inl p ↦ or_left (eqb u t || prepared H u) _ (or_right (eqb u t) _ p) | inr d ↦ or_right (eqb u t || prepared H u) _ d ]

module _ (S : Setup) (e : Event) (P : List Event) (n : ℕ) (old ms : List Mark) (m : AreMarked S P n old) where
  -- the marks have grown, and those of the transaction that the event validates are set
  pub marked_next : suc (length P) ≤ length ms → ((i : ℕ) → IsTrue (is_left old i) → IsTrue (is_left ms i)) → ((i : ℕ) → IsTrue (is_entered old i) → IsTrue (is_entered ms i))
      → ((i : ℕ) → IsTrue (is_behind old i) → IsTrue (is_behind ms i)) → ((i : ℕ) → IsTrue (is_ahead old i) → IsTrue (is_ahead ms i))
      → ((t : Txn) → validated_txn e ≡ Some t → Lawful S (e ∷ P) → (u : ℕ) → IsSettled (e ∷ P) t.0 → IsSettled (e ∷ P) u → Touches S (e ∷ P) n t.0 u → IsTold S (e ∷ P) n ms t.0 u)
      → ((t : Txn) → validated_txn e ≡ Some t → Lawful S (e ∷ P) → (u : ℕ) → IsSettled (e ∷ P) t.0 → IsSettled (e ∷ P) u → Touches S (e ∷ P) n u t.0 → IsTold S (e ∷ P) n ms u t.0)
      → AreMarked S (e ∷ P) n ms
  marked_next long left entered heads tails ahead behind = record { long = long; told = told }
    where
      before : upto (length P) (e ∷ P) ≡ P
      before = upto_cons (length P) e P (le_refl _) ∙ upto_all (length P) P (le_refl _)

      kept : Lawful S (e ∷ P) → (u w : ℕ) → IsVouched (e ∷ P) u → IsVouched (e ∷ P) w → vouched_at (e ∷ P) u < length P → vouched_at (e ∷ P) w < length P → Touches S (e ∷ P) n u w
          → IsTold S (e ∷ P) n ms u w
      kept l u w cu cw vu vw t =
          let h : length P ≤ length (e ∷ P) = (let z : length P ≤ suc (length P) = omega arith in z) in
          let bu : began_at (e ∷ P) u < length P = (let z = (vouched_time S (e ∷ P) u l cu).0 in omega arith) in
          let bw : began_at (e ∷ P) w < length P = (let z = (vouched_time S (e ∷ P) w l cw).0 in omega arith) in
          let r = m.told (subst (Lawful S) before (Lawful-upto S (e ∷ P) (length P) l)) u w
          (subst (λ (G : List Event). IsSettled G u) before (settled_at S (e ∷ P) (length P) u l h cu vu))
          (subst (λ (G : List Event). IsSettled G w) before (settled_at S (e ∷ P) (length P) w l h cw vw))
          (subst (λ (G : List Event). Touches S G n u w) before (touches_before S (e ∷ P) (length P) n u w l h cu cw vu vw t)) in
          let su : start S P n u ≡ start S (e ∷ P) n u = ap (λ (G : List Event). start S G n u) (sym before) ∙ start-upto S (e ∷ P) (length P) n u l h bu in
          let sw : start S P n w ≡ start S (e ∷ P) n w = ap (λ (G : List Event). start S G n w) (sym before) ∙ start-upto S (e ∷ P) (length P) n w l h bw in
          record {
            left = subst (λ (z : ℕ). IsTrue (is_left ms z)) su (left _ r.left);
            entered = subst (λ (z : ℕ). IsTrue (is_entered ms z)) sw (entered _ r.entered);
            ahead = tails _ r.ahead;
            behind = heads _ r.behind;
          }

      told : Lawful S (e ∷ P) → (u w : ℕ) → IsSettled (e ∷ P) u → IsSettled (e ∷ P) w → Touches S (e ∷ P) n u w → IsTold S (e ∷ P) n ms u w
      told l u w hu hw t =
          let cu = vouched S (e ∷ P) u l hu in
          let cw = vouched S (e ∷ P) w l hw in
          let wu : vouched_at (e ∷ P) u < suc (length P) = cu.vouched in
          let ww : vouched_at (e ∷ P) w < suc (length P) = cw.vouched in
          elim (cases_lt (vouched_at (e ∷ P) u) (length P)) [
            | inl a ↦ elim (cases_lt (vouched_at (e ∷ P) w) (length P)) [
              | inl b ↦ kept l u w cu cw a b t
              | inr b ↦ (let r = by_newest e P w (omega arith) in
                  subst (λ (z : ℕ). IsTold S (e ∷ P) n ms u z) r.2 (behind r.0 r.1 l u (subst (IsSettled (e ∷ P)) (sym r.2) hw) hu (subst (λ (z : ℕ). Touches S (e ∷ P) n u z) (sym r.2) t)))
            ]
            | inr a ↦ (let r = by_newest e P u (omega arith) in
                subst (λ (z : ℕ). IsTold S (e ∷ P) n ms z w) r.2 (ahead r.0 r.1 l w (subst (IsSettled (e ∷ P)) (sym r.2) hu) hw (subst (λ (z : ℕ). Touches S (e ∷ P) n z w) (sym r.2) t)))
          ]

pub marked_none : (S : Setup) (H : List Event) (n : ℕ) (ms : List Mark) → H ≡ [] → AreMarked S H n ms
marked_none S H n ms e = subst (λ (G : List Event). AreMarked S G n ms) (sym e)
    (record { long = (let z : 0 ≤ length ms = omega arith in z); told = λ l u w hu hw t. absurd (none (vouched S [] u l hu)) })
  where
    none : {u : ℕ} → IsVouched [] u → ⊥
    none v = let z = v.vouched in absurd (omega arith)

-- a transaction that is validated by the newest event has begun
pub validated_begun : (S : Setup) (P : List Event) (n : ℕ) (e : Event) (t : Txn) → MayNote S P n e → validated_txn e ≡ Some t → begun (e ∷ P) t.0 ≡ true
validated_begun S P n (Ready s) t m h = let q : s ≡ t = cc in begun_step (Ready s) P t.0 ∙ subst (λ (z : Txn). begun P z.0 ≡ true) q (unfinished_parts P s.0 m).0
validated_begun S P n (Done s) t m h = let q : s ≡ t = cc in begun_step (Done s) P t.0 ∙ subst (λ (z : Txn). begun P z.0 ≡ true) q (unfinished_parts P s.0 m).0
validated_begun S P n _ t m h = absurd (cc)

pub settled_stands : (S : Setup) (H : List Event) (u : ℕ) → Lawful S H → IsSettled H u → aborted H u ≡ false
settled_stands S H u l h = elim (or_cases (prepared H u) (committed H u) h) [
  | inl p ↦ (unfinished_parts H u (prepared_runs H u p)).2
  | inr c ↦ (unfold aborted in le-ltb _ _ (commits S H u l (commits_from H u c)).1)
]

-- a flag of the mark at a place stays set if one more mark is appended
known_pushed : (known : Mark → Bool) → known no_mark ≡ false → (ms : List Mark) (x : Mark) (i : ℕ) → known (get_or ms i no_mark) ≡ true → known (get_or (ms ++ x ∷ []) i no_mark) ≡ true
known_pushed known none [] x i h = absurd (both_ways _ none h)
known_pushed known none (m ∷ ms) x zero h = h
known_pushed known none (m ∷ ms) x (suc i) h = known_pushed known none ms x i h

-- the marks show the edges between t and u in both directions
abbrev pub TellsOf : Setup → List Event → ℕ → List Mark → ℕ → ℕ → Type 0
TellsOf S H n ms t u = (Touches S H n t u → IsTold S H n ms t u) × (Touches S H n u t → IsTold S H n ms u t)

-- one more mark for the newest event, and then the marks that the event sets
module _ (S : Setup) (H : List Event) (e : Event) (P : List Event) (h : H ≡ e ∷ P) (m n : ℕ) (same : m ≡ n) (old pushed ms : List Mark) (x : Mark) (push : pushed ≡ old ++ x ∷ [])
    (g : HaveGrown pushed ms) (marked : AreMarked S P n old) where
  pub marked_noted : ((t : Txn) → validated_txn e ≡ Some t → Lawful S H → (u : ℕ) → IsSettled H t.0 → IsSettled H u → TellsOf S H m ms t.0 u) → AreMarked S H m ms
  marked_noted f =
      let tells = subst (λ (G : List Event). (t : Txn) → validated_txn e ≡ Some t → Lawful S G → (u : ℕ) → IsSettled G t.0 → IsSettled G u → TellsOf S G m ms t.0 u) h f in
      let long : suc (length P) ≤ length ms = (let z = marked.long in omega (arith, z, ap (λ (xs : List Mark). length xs) push, length-append old (x ∷ []), g.long)) in
      subst (λ (G : List Event). AreMarked S G m ms) (sym h)
      (marked_next S e P m old ms (subst (λ (k : ℕ). AreMarked S P k old) (sym same) marked) long
      (λ i q. g.left i (subst (λ (xs : List Mark). IsTrue (is_left xs i)) (sym push) (known_pushed (λ (m : Mark). m.left) refl old x i q)))
      (λ i q. g.entered i (subst (λ (xs : List Mark). IsTrue (is_entered xs i)) (sym push) (known_pushed (λ (m : Mark). m.entered) refl old x i q)))
      (λ i q. g.behind i (subst (λ (xs : List Mark). IsTrue (is_behind xs i)) (sym push) (known_pushed (λ (m : Mark). m.behind) refl old x i q)))
      (λ i q. g.ahead i (subst (λ (xs : List Mark). IsTrue (is_ahead xs i)) (sym push) (known_pushed (λ (m : Mark). m.ahead) refl old x i q)))
      (λ t q l u a b p. (tells t q l u a b).0 p)
      (λ t q l u a b p. (tells t q l u a b).1 p))

-- a transaction that is not on the node touches none there
pub tells_off : (S : Setup) (H : List Event) (n : ℕ) (ms : List Mark) (t u : ℕ) → on S H n t ≡ false → TellsOf S H n ms t u
tells_off S H n ms t u f = (
  (λ p. absurd (both_ways _ f (meets_parts S H n t u (and_parts (meets S H n t u) (concurrent S H n t u) p.across).0).0)),
  (λ p. absurd (both_ways _ f (meets_parts S H n u t (and_parts (meets S H n u t) (concurrent S H n u t) p.across).0).1)),
)
