-- An edge can be found without comparing versions.
use Rattle.std.proofs.Common.{◌≡◌, ℕ, ◌<◌, ◌≤◌, Bool, true, false, not, ◌&&◌, ◌||◌, eqb, ltb, List, [], ◌∷◌, filter, cond, Option, Some, None}
use Rattle.std.proofs.Common.{refl, sym, ◌∙◌, ap, subst, inl, inr, arith, ℤ, length, lt-ltb, le-ltb, le_refl, eqb-true, eq-eqb, ltb-true}
use Rattle.std.specs.List.{list_any}
use Rattle.std.proofs.lemmas.Bool.{cases_lt, cases_eq, cases_Bool, both_ways, ne_eqb, and_parts, and_from, or_cases, or_left, or_right, false_from_ne_true, ltb-false}
use Rattle.teb_rules.specs.declared.names.Txn.{Txn}
use Rattle.teb_rules.specs.declared.names.Cell.{Cell}
use Rattle.teb_rules.specs.declared.names.ControlKind.TheVariants.{Snapshot}
use Rattle.teb_rules.proofs.lemmas.names.Bools.{and_false}
use Rattle.teb_rules.specs.declared.history.Event.{Event}
use Rattle.teb_rules.specs.declared.history.Event.TheVariants.{Began, Got, Put, Ready, Done, Gone, Told}
use Rattle.teb_rules.specs.history.Accesses.{wrote, put_at}
use Rattle.teb_rules.specs.history.OwnEvents.{is_of, own_events}
use Rattle.teb_rules.specs.history.Phases.{began_at, gone_at, begun, aborted, committed, prepared, unfinished, ready_at}
use Rattle.teb_rules.specs.history.Positions.{upto, came}
use Rattle.teb_rules.specs.Setup.{Setup}
use Rattle.teb_rules.specs.Tree.{row, on, side, meets}
use Rattle.teb_rules.specs.Batches.{start, close, concurrent, one_batch}
use Rattle.teb_rules.specs.Versions.{precedes}
use Rattle.teb_rules.specs.Controls.{reads_past, edge}
use Rattle.teb_rules.specs.laws.Lawful.{Lawful}
use Rattle.teb_rules.specs.laws.TreeFacts.{TreeFacts}
use Rattle.teb_rules.proofs.lemmas.laws.Positions.{upto_all}
use Rattle.teb_rules.proofs.lemmas.laws.ReadRule.{GotAt}
use Rattle.teb_rules.proofs.lemmas.laws.Assembly.{suffix_next, suffix_got}
use Rattle.teb_rules.proofs.lemmas.laws.Pivots.{past_at}
use Rattle.teb_rules.proofs.lemmas.laws.Intervals.{start_not_close, apart_or_same}
use Rattle.teb_rules.proofs.lemmas.laws.Batches.{start_differs}
use Rattle.teb_rules.proofs.lemmas.laws.Ranks.{commits}
use Rattle.teb_rules.proofs.lemmas.laws.Serial.{commits_from}
use Rattle.teb_rules.proofs.lemmas.laws.Nodes.{meets_parts, meets_from, meets_sym}
use Rattle.batch_book.specs.Histories.{ClosedBelow}
use Rattle.batch_book.proofs.Numbered.{unfinished_parts}
use Rattle.snapshot_node.specs.Pivots.{is_at_stake, is_across}
use Rattle.snapshot_node.proofs.ReadsPast.{read_before}

-- the event is a Got of a cell that b has put
abbrev pub gets_put : List Event → ℕ → Event → Bool
gets_put H b (Got s x w v) = wrote H b x
gets_put H b _ = false

-- the event is a Got by a of a cell that b has put
abbrev pub is_touch : List Event → ℕ → ℕ → Event → Bool
is_touch H a b e = is_of a e && gets_put H b e

touch_own : (H : List Event) (a b : ℕ) (P : List Event) → list_any (gets_put H b) (own_events P a) ≡ list_any (is_touch H a b) P
unfolding own_events
touch_own H a b [] = refl
touch_own H a b (e ∷ P) = go (is_of a e) (touch_own H a b P)
  where
    go : (z : Bool) → list_any (gets_put H b) (filter (is_of a) P) ≡ list_any (is_touch H a b) P
        → list_any (gets_put H b) (cond z (e ∷ filter (is_of a) P) (filter (is_of a) P)) ≡ ((z && gets_put H b e) || list_any (is_touch H a b) P)
    go true ih = ap (λ (z : Bool). gets_put H b e || z) ih
    go false ih = ih

pub past_touch : (S : Setup) (H : List Event) (a b : ℕ) (P : List Event) → reads_past S H P a b ≡ true → list_any (is_touch H a b) P ≡ true
unfolding reads_past
past_touch S H a b [] h = absurd (cc)
past_touch S H a b (Got s x w v ∷ P) h = elim (or_cases ((eqb s.0 a && wrote H b x) && precedes S H x w.0 b) (reads_past S H P a b) h) [
  | inl e ↦ or_left (eqb s.0 a && wrote H b x) _ (and_parts (eqb s.0 a && wrote H b x) (precedes S H x w.0 b) e).0
  | inr e ↦ or_right (eqb s.0 a && wrote H b x) _ (past_touch S H a b P e)
]
past_touch S H a b (Began s z k i ∷ P) h = or_right (eqb s.0 a && false) _ (past_touch S H a b P h)
past_touch S H a b (Put s x v ∷ P) h = or_right (eqb s.0 a && false) _ (past_touch S H a b P h)
past_touch S H a b (Ready s ∷ P) h = or_right (eqb s.0 a && false) _ (past_touch S H a b P h)
past_touch S H a b (Done s ∷ P) h = or_right (eqb s.0 a && false) _ (past_touch S H a b P h)
past_touch S H a b (Gone s z ∷ P) h = or_right (eqb s.0 a && false) _ (past_touch S H a b P h)
past_touch S H a b (Told s ∷ P) h = or_right (eqb s.0 a && false) _ (past_touch S H a b P h)

record Touch (H : List Event) (a b : ℕ) : Type 0 where
  place : ℕ
  txn : Txn
  cell : Cell
  from : Txn
  value : Option ℤ
  is : GotAt H place txn cell from value
  reader : txn.0 ≡ a
  put : wrote H b cell ≡ true

touch_is : (H : List Event) (a b : ℕ) (P : List Event) → length P ≤ length H → upto (length P) H ≡ P → list_any (is_touch H a b) P ≡ true → Touch H a b
touch_is H a b [] h q e = absurd (cc)
touch_is H a b (Got s x w v ∷ P) h q e = elim (or_cases (eqb s.0 a && wrote H b x) _ e) [
  | inl f ↦ (let r = and_parts (eqb s.0 a) (wrote H b x) f in record {
    place = length P;
    txn = s;
    cell = x;
    from = w;
    value = v;
    is = suffix_got H s x w v P h q;
    reader = eqb-true s.0 a r.0;
    put = r.1;
  })
  | inr f ↦ touch_is H a b P (omega arith) (suffix_next H (Got s x w v) P q) f
]
touch_is H a b (Began s z k i ∷ P) h q e = touch_is H a b P (omega arith) (suffix_next H (Began s z k i) P q) (sym (ap (λ (t : Bool). t || list_any (is_touch H a b) P) (and_false (eqb s.0 a))) ∙ e)
touch_is H a b (Put s x v ∷ P) h q e = touch_is H a b P (omega arith) (suffix_next H (Put s x v) P q) (sym (ap (λ (t : Bool). t || list_any (is_touch H a b) P) (and_false (eqb s.0 a))) ∙ e)
touch_is H a b (Ready s ∷ P) h q e = touch_is H a b P (omega arith) (suffix_next H (Ready s) P q) (sym (ap (λ (t : Bool). t || list_any (is_touch H a b) P) (and_false (eqb s.0 a))) ∙ e)
touch_is H a b (Done s ∷ P) h q e = touch_is H a b P (omega arith) (suffix_next H (Done s) P q) (sym (ap (λ (t : Bool). t || list_any (is_touch H a b) P) (and_false (eqb s.0 a))) ∙ e)
touch_is H a b (Gone s z ∷ P) h q e = touch_is H a b P (omega arith) (suffix_next H (Gone s z) P q) (sym (ap (λ (t : Bool). t || list_any (is_touch H a b) P) (and_false (eqb s.0 a))) ∙ e)
touch_is H a b (Told s ∷ P) h q e = touch_is H a b P (omega arith) (suffix_next H (Told s) P q) (sym (ap (λ (t : Bool). t || list_any (is_touch H a b) P) (and_false (eqb s.0 a))) ∙ e)

stays : (H : List Event) (u : ℕ) → aborted H u ≡ false → length H ≤ gone_at H u
unfolding aborted
stays H u h = ltb-false _ _ h

pub prepared_runs : (H : List Event) (u : ℕ) → prepared H u ≡ true → unfinished H u ≡ true
unfolding prepared
prepared_runs H u p = (and_parts (unfinished H u) (came H (ready_at H u)) p).0

-- a transaction at stake is not aborted
pub stake_stands : (S : Setup) (H : List Event) (t u : ℕ) → Lawful S H → aborted H t ≡ false → is_at_stake H t u ≡ true → aborted H u ≡ false
stake_stands S H t u l n h = elim (or_cases (eqb u t || prepared H u) (committed H u) h) [
  | inr c ↦ (unfold aborted in le-ltb _ _ (commits S H u l (commits_from H u c)).1)
  | inl o ↦ elim (or_cases (eqb u t) (prepared H u) o) [
    | inl e ↦ ap (aborted H) (eqb-true u t e) ∙ n
    | inr p ↦ (unfinished_parts H u (prepared_runs H u p)).2
  ]
]

pub begun_place : (H : List Event) (u : ℕ) → begun H u ≡ true → began_at H u < length H
unfolding begun
begun_place H u h = ltb-true _ _ h

module _ (S : Setup) (H : List Event) (n : ℕ) (l : Lawful S H) where
  -- two batches of different sides are concurrent if neither is closed before the other starts
  concurrent_unless : (u w : ℕ) → began_at H u < length H → began_at H w < length H → on S H n u ≡ true → on S H n w ≡ true
      → (not (ltb (close S H n w) (start S H n u)) && not (ltb (close S H n u) (start S H n w))) ≡ concurrent S H n u w
  unfolding concurrent
  concurrent_unless u w bu bw ou ow = λ j. open_ w u (start_not_close S H n u w l ou ow bu bw) j && open_ u w (start_not_close S H n w u l ow ou bw bu) j
    where
      open_ : (w u : ℕ) → (start S H n u ≡ close S H n w → ⊥) → not (ltb (close S H n w) (start S H n u)) ≡ ltb (start S H n u) (close S H n w)
      open_ w u ne = elim (cases_lt (close S H n w) (start S H n u)) [
        | inl r ↦ ap not (lt-ltb _ _ r) ∙ sym (le-ltb _ _ (omega arith))
        | inr r ↦ ap not (le-ltb _ _ r) ∙ sym (lt-ltb _ _ (omega arith))
      ]

module _ (S : Setup) (H : List Event) (n : ℕ) where
  -- if all transactions below m are closed before u's batch starts, a transaction across from u is numbered m or above
  pub across_later : (u m w : ℕ) → ClosedBelow S H n u m → begun H w ≡ true → is_across S H n u w ≡ true → m ≤ w
  unfolding concurrent
  across_later u m w below b h =
      let p = and_parts (meets S H n u w) (concurrent S H n u w) h in
      let y = ltb-true _ _ (and_parts (ltb (start S H n u) (close S H n w)) (ltb (start S H n w) (close S H n u)) p.1).0 in
      elim (cases_lt w m) [ inl l ↦ absurd (let z = below w l b (meets_parts S H n u w p.0).1 in omega arith) | inr l ↦ l ]

  -- no transaction is across from itself
  pub across_same : (u w : ℕ) → not (eqb u w) ≡ false → false ≡ is_across S H n u w
  across_same u w h = sym (false_from_ne_true _ (λ k. (meets_parts S H n u w (and_parts (meets S H n u w) (concurrent S H n u w) k).0).2 (ap (side S H n) (eqb-true u w (even (eqb u w) h)))))
    where
      even : (b : Bool) → not b ≡ false → b ≡ true
      even true h = refl
      even false h = absurd (cc)

  pub across_turned : (u w : ℕ) → is_across S H n u w ≡ true → is_across S H n w u ≡ true
  unfolding concurrent
  across_turned u w h =
      let p = and_parts (meets S H n u w) (concurrent S H n u w) h in
      let q = and_parts (ltb (start S H n u) (close S H n w)) (ltb (start S H n w) (close S H n u)) p.1 in
      and_from _ _ (meets_sym S H n u w p.0) (and_from _ _ q.1 q.0)

module _ (S : Setup) (a : TreeFacts S) (H : List Event) (n : ℕ) (l : Lawful S H) (c : (row S.tree n).control ≡ Snapshot) where
  pub edge_found : (u w : ℕ) → aborted H w ≡ false → (meets S H n u w && concurrent S H n u w && list_any (gets_put H w) (own_events H u)) ≡ edge S H n u w
  unfolding edge concurrent
  edge_found u w s = go (meets S H n u w) refl (ltb (start S H n u) (close S H n w)) refl (ltb (start S H n w) (close S H n u)) refl
    where
      same : meets S H n u w ≡ true → ltb (start S H n u) (close S H n w) ≡ true → ltb (start S H n w) (close S H n u) ≡ true → list_any (gets_put H w) (own_events H u) ≡ reads_past S H H u w
      same m p q = touch_own H u w H ∙ elim (cases_Bool (list_any (is_touch H u w) H)) [
        | inl e ↦ (let r = touch_is H u w H (le_refl _) (upto_all (length H) H (le_refl _)) e in
            let m2 = subst (λ (z : ℕ). meets S H n z w ≡ true) (sym r.reader) m in
            let p2 = subst (λ (z : ℕ). start S H n z < close S H n w) (sym r.reader) (ltb-true _ _ p) in
            let q2 = subst (λ (z : ℕ). start S H n w < close S H n z) (sym r.reader) (ltb-true _ _ q) in
            let before = read_before S a H n l c r.place r.txn r.cell r.from r.value w r.is m2 (put_there r.cell r.put) (stays H w s) p2 q2 in
            e ∙ sym (subst (λ (z : ℕ). reads_past S H H z w ≡ true) r.reader (past_at S H H r.place r.txn r.cell r.from r.value w r.is.place r.is.is r.put before)))
        | inr e ↦ e ∙ sym (false_from_ne_true _ (λ k. both_ways _ e (past_touch S H u w H k)))
      ]
        where
          put_there : (x : Cell) → wrote H w x ≡ true → put_at H w x < length H
          put_there x k = ltb-true _ _ (unfold wrote in k)

      go : (m : Bool) → meets S H n u w ≡ m → (p : Bool) → ltb (start S H n u) (close S H n w) ≡ p → (q : Bool) → ltb (start S H n w) (close S H n u) ≡ q
          → ((m && (p && q)) && list_any (gets_put H w) (own_events H u)) ≡ ((m && (p && q)) && reads_past S H H u w)
      go true e true f true g = same e f g
      go true e true f false g = refl
      go true e false f q g = refl
      go false e p f q g = refl

-- one_batch is false off the node and for different sides; on one side it compares the starts
module _ (S : Setup) (H : List Event) (n b c : ℕ) where
  pub off_left : on S H n b ≡ false → false ≡ one_batch S H n b c
  unfolding one_batch
  off_left h = rw h refl

  pub off_right : on S H n c ≡ false → false ≡ one_batch S H n b c
  unfolding one_batch
  off_right h = go (on S H n b) (on S H n c) h
    where
      go : (x y : Bool) → y ≡ false → false ≡ (((x && y) && eqb (side S H n b) (side S H n c)) && eqb (start S H n b) (start S H n c))
      go true true h = absurd (cc)
      go true false h = refl
      go false y h = refl

  pub off_side : eqb (side S H n b) (side S H n c) ≡ false → false ≡ one_batch S H n b c
  unfolding one_batch
  off_side h = go (on S H n b && on S H n c) (eqb (side S H n b) (side S H n c)) h
    where
      go : (x y : Bool) → y ≡ false → false ≡ ((x && y) && eqb (start S H n b) (start S H n c))
      go true true h = absurd (cc)
      go true false h = refl
      go false y h = refl

  pub one_start : on S H n b ≡ true → on S H n c ≡ true → eqb (side S H n b) (side S H n c) ≡ true → eqb (start S H n b) (start S H n c) ≡ one_batch S H n b c
  unfolding one_batch
  one_start x y z = λ j. ((sym x j && sym y j) && sym z j) && eqb (start S H n b) (start S H n c)

-- an optional start is present if and only if the node is on the path, and then it is the start
pub started : (b : Bool) (s i : ℕ) → Some i ≡ cond b (Some s) None → (b ≡ true) × (i ≡ s)
started true s i e = (refl, (let q : Some i ≡ Some s = e in cc))
started false s i e = absurd (cc)

pub unstarted : (b : Bool) (s : ℕ) → None ≡ cond b (Some s) None → b ≡ false
unstarted true s e = absurd (cc)
unstarted false s e = refl

-- two transactions that have begun and are on the node
module _ (S : Setup) (H : List Event) (n : ℕ) (l : Lawful S H) (u w : ℕ) (bu : began_at H u < length H) (bw : began_at H w < length H) (ou : on S H n u ≡ true) (ow : on S H n w ≡ true) where
  -- they are of one batch if and only if their batches start at the same event
  pub one_by_start : eqb (start S H n u) (start S H n w) ≡ one_batch S H n u w
  one_by_start = elim (cases_eq (side S H n u) (side S H n w)) [
    | inl e ↦ one_start S H n u w ou ow (eq-eqb _ _ e)
    | inr ne ↦ ne_eqb _ _ (start_differs S H n u w l bu bw ou ow ne) ∙ off_side S H n u w (ne_eqb _ _ ne)
  ]

  -- for concurrent batches: the starts differ if and only if the two meet
  apart_meet : concurrent S H n u w ≡ true → not (eqb (start S H n u) (start S H n w)) ≡ meets S H n u w
  unfolding concurrent
  apart_meet c = elim (cases_eq (side S H n u) (side S H n w)) [
    | inl e ↦ (let q = and_parts (ltb (start S H n u) (close S H n w)) (ltb (start S H n w) (close S H n u)) c in
        let x = ltb-true (start S H n u) (close S H n w) q.0 in
        let y = ltb-true (start S H n w) (close S H n u) q.1 in
        elim (apart_or_same S H n u w l bu bw ou ow e) [
          | inl s ↦ ap not (eq-eqb _ _ s) ∙ sym (false_from_ne_true _ (λ m. (meets_parts S H n u w m).2 e))
          | inr r ↦ elim r [ inl k ↦ absurd (omega arith) | inr k ↦ absurd (omega arith) ]
        ])
    | inr ne ↦ ap not (ne_eqb _ _ (start_differs S H n u w l bu bw ou ow ne)) ∙ sym (meets_from S H n u w ou ow ne)
  ]

  -- they are across if and only if their starts differ and neither batch is closed before the other starts
  pub across_overlap : ((not (eqb (start S H n u) (start S H n w)) && not (ltb (close S H n u) (start S H n w))) && not (ltb (close S H n w) (start S H n u))) ≡ is_across S H n u w
  across_overlap =
      turn (not (eqb (start S H n u) (start S H n w))) (not (ltb (close S H n u) (start S H n w))) (not (ltb (close S H n w) (start S H n u)))
      ∙ ap (λ (z : Bool). not (eqb (start S H n u) (start S H n w)) && z) (concurrent_unless S H n l u w bu bw ou ow)
      ∙ elim (cases_Bool (concurrent S H n u w)) [
        | inl c ↦ ap (λ (z : Bool). z && concurrent S H n u w) (apart_meet c)
        | inr c ↦ (λ j. not (eqb (start S H n u) (start S H n w)) && c j) ∙ and_false (not (eqb (start S H n u) (start S H n w))) ∙ sym (and_false (meets S H n u w))
            ∙ (λ j. meets S H n u w && sym c j)
      ]
    where
      turn : (a x y : Bool) → ((a && x) && y) ≡ (a && (y && x))
      turn true true true = refl
      turn true true false = refl
      turn true false true = refl
      turn true false false = refl
      turn false x y = refl
