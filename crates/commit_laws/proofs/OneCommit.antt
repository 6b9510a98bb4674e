-- The effect of one more commit on the final table.
use Rattle.std.proofs.Common.{◌≡◌, ◌≢◌, ◌⊎◌, ◌<◌, ◌≤◌, ℕ, suc, Bool, true, false, cond, not, ◌&&◌, List, [], ◌∷◌, Option, Some, None, ℤ, refl}
use Rattle.std.proofs.Common.{sym, ap, subst, ◌∙◌, arith, inl, inr, length, unwrap_or, lt-ltb, le-ltb, ltb-true, ltb-false, eqb-true, le_refl}
use Rattle.std.specs.List.{list_all}
use Rattle.std.proofs.lemmas.Bool.{eq-eqb, both_ways, cases_eq, cases_lt, and_from, and_parts, not-true, not-false, false_from_ne_true}
use Rattle.teb_rules.specs.declared.names.Txn.{Txn}
use Rattle.teb_rules.specs.declared.names.Cell.{Cell}
use Rattle.teb_rules.specs.declared.history.Event.{Event}
use Rattle.teb_rules.specs.declared.history.Event.TheVariants.{Done}
use Rattle.teb_rules.specs.history.Accesses.{wrote, put_at, last_put}
use Rattle.teb_rules.specs.history.Phases.{txns, committed, began_at, done_at, is_done}
use Rattle.teb_rules.specs.history.Positions.{upto, first, first_event, newest}
use Rattle.teb_rules.specs.Setup.{Setup, Store}
use Rattle.teb_rules.specs.Serializes.{In, value_of, final_table}
use Rattle.teb_rules.specs.Versions.{precedes, latest}
use Rattle.teb_rules.specs.laws.Lawful.{Lawful}
use Rattle.teb_rules.specs.laws.TreeFacts.{TreeFacts}
use Rattle.teb_rules.proofs.lemmas.laws.Cascades.{unfinished_times}
use Rattle.teb_rules.proofs.lemmas.laws.Positions.{upto_all, upto_cons, first_cases, before, now, later}
use Rattle.teb_rules.proofs.lemmas.laws.Ranks.{commits}
use Rattle.teb_rules.proofs.lemmas.laws.ReadRule.{list_all_at, latest-some, last_put-none, last_put-some}
use Rattle.teb_rules.proofs.lemmas.laws.Serial.{In-filter, filter-In, commits_from, committed_from}
use Rattle.teb_rules.proofs.lemmas.laws.Timeline.{committed-upto, wrote-upto, put_order}
use Rattle.teb_rules.proofs.lemmas.laws.VersionOrder.{precedes_irreflexive}
use Rattle.commit_laws.specs.Records.{is_newest}
use Rattle.commit_laws.proofs.Latest.{counted, Wrote, latest_is, latest_nobody, writers_ordered_by, transitive, in_counted, counted_in}
use Rattle.commit_laws.proofs.Latest.{was_done, then_wrote, now_wrote, same_order, then_counted, still_latest, nobody_then, value_then}

-- if not all elements pass, one of them fails
not_all : (p : ℕ → Bool) (us : List ℕ) → list_all p us ≡ false → (u : ℕ) × In u us × (p u ≡ false)
not_all p [] h = absurd (cc)
not_all p (v ∷ vs) h = go (p v) refl h (not_all p vs)
  where
    go : (b : Bool) → p v ≡ b → (b && list_all p vs) ≡ false → (list_all p vs ≡ false → (u : ℕ) × In u vs × (p u ≡ false)) → (u : ℕ) × In u (v ∷ vs) × (p u ≡ false)
    go true e k rest = let r = rest k in (r.0, inr r.1, r.2)
    go false e k rest = (v, inl refl, e)

-- a transaction that is committed after this Done is the one that commits, or was committed before
committed_by : (t : Txn) (P : List Event) (w : ℕ) → committed (Done t ∷ P) w ≡ true → (w ≡ t.0) ⊎ (committed P w ≡ true)
unfolding committed done_at first_event
committed_by t P w h = elim (first_cases (newest (is_done w)) (Done t) P) [
  | before a b ↦ inr (lt-ltb _ _ a)
  | now a b c ↦ inl (sym (eqb-true _ _ b))
  | later a b c ↦ absurd (both_ways _ (le-ltb _ _ (let z : suc (length P) ≤ first (newest (is_done w)) (Done t ∷ P) = omega arith in z)) h)
]

module _ (X : Store) (a : TreeFacts X.setup) (t : Txn) (P : List Event) (l : Lawful X.setup (Done t ∷ P)) (x : Cell) where
  abbrev S : Setup
  S = X.setup

  abbrev H : List Event
  H = Done t ∷ P

  abbrev i : ℕ
  i = length P

  h : i ≤ length H
  h = omega arith

  abbrev Q : List Event
  Q = upto i H

  pub was : Q ≡ P
  was = upto_cons (length P) (Done t) P (le_refl _) ∙ upto_all (length P) P (le_refl _)

  done_now : committed H t.0 ≡ true
  unfolding committed done_at first_event
  done_now = elim (first_cases (newest (is_done t.0)) (Done t) P) [
    | before a b ↦ lt-ltb _ _ (omega arith)
    | now a b c ↦ lt-ltb _ _ (omega arith)
    | later a b c ↦ absurd (both_ways _ b (eq-eqb t.0 t.0 refl))
  ]

  at_end : i ≤ done_at H t.0
  unfolding Lawful
  at_end = elim (cases_lt (done_at H t.0) i) [
    | inl lt ↦ (let was_committed : committed P t.0 ≡ true = subst (λ (R : List Event). committed R t.0 ≡ true) was (committed-upto H i t.0 h ∙ lt-ltb _ _ lt) in
        let u = unfinished_times P t.0 l.0.unfinished in
        let c = commits_from P t.0 was_committed in
        absurd (omega (arith, u.1)))
    | inr le ↦ le
  ]

  began : began_at H t.0 < i
  began = let c = commits S H t.0 l (commits_from H t.0 done_now) in elim (cases_lt (began_at H t.0) i) [ inl lt ↦ lt | inr le ↦ absurd (let d = commits_from H t.0 done_now in omega arith) ]

  not_yet : committed Q t.0 ≡ true → ⊥
  not_yet c = let d = was_done S a H l i h x t.0 c in let e = at_end in omega arith

  lq_of : Lawful S Q
  unfolding Lawful
  lq_of = subst (Lawful S) (sym was) l.1

  of_now : (w : ℕ) → In w (counted (committed H) H x) → Wrote H x w × ((w ≡ t.0) ⊎ (In w (counted (committed Q) Q x)))
  of_now w j =
      let p = counted_in S a H l x (committed H) w j in (
        record { done = commits_from H w p.0; put = p.1 },
        elim (committed_by t P w p.0) [
          | inl e ↦ inl e
          | inr c ↦ (let d : committed Q w ≡ true = subst (λ (R : List Event). committed R w ≡ true) (sym was) c in
              inr (in_counted S a Q lq_of x (committed Q) w d (then_wrote S a H l i h x w d p.1)))
        ],
      )

  of_then : (w : ℕ) → In w (counted (committed Q) Q x) → In w (counted (committed H) H x)
  of_then w j =
      let p = then_counted S a H l i h x w j in
      let n = now_wrote S a H l i h x w p.0 p.1 in
      in_counted S a H l x (committed H) w (committed_from H w n.0.done) n.0

  own_put : put_at H t.0 x < length H → put_at H t.0 x < i
  own_put p = let o = put_order S H t.0 x l p in let c = commits_from H t.0 done_now in elim (cases_lt (put_at H t.0 x) i) [ inl lt ↦ lt | inr le ↦ absurd (omega arith) ]

  own_wrote : wrote Q t.0 x ≡ true → put_at H t.0 x < i
  own_wrote r = ltb-true _ _ (sym (wrote-upto H i t.0 x h) ∙ r)

  -- if t's version is not the newest, a committed version follows it
  followed : is_newest S Q t.0 x ≡ false → (w : ℕ) × In w (counted (committed Q) Q x) × (precedes S Q x t.0 w ≡ true)
  unfolding is_newest
  followed f =
      let r = not_all _ (txns Q) f in
      let all = not-false (committed Q r.0 && wrote Q r.0 x && precedes S Q x t.0 r.0) r.2 in
      let two = and_parts _ _ all in
      (r.0, In-both r.0 r.1 two.0, two.1)
    where
      In-both : (w : ℕ) → In w (txns Q) → (committed Q w && wrote Q w x) ≡ true → In w (counted (committed Q) Q x)
      In-both w j e = In-filter (λ w. committed Q w && wrote Q w x) w (txns Q) j e

  -- if t's version is the newest, t is the latest writer
  newest_left : wrote Q t.0 x ≡ true → is_newest S Q t.0 x ≡ true → latest S H x (counted (committed H) H x) ≡ Some t.0
  newest_left r f =
      let p = own_wrote r in
      let mine : Wrote H x t.0 = record { done = commits_from H t.0 done_now; put = omega arith } in
      latest_is S H x (counted (committed H) H x) t.0 (λ u w j k ne. writers_ordered_by S a H l x u w (of_now u j).0 (of_now w k).0 ne) (in_counted S a H l x (committed H) t.0 done_now mine)
      (λ u j. elim (cases_eq t.0 u) [
        | inl e ↦ subst (λ (z : ℕ). precedes S H x t.0 z ≡ false) e (precedes_irreflexive S H x t.0)
        | inr ne ↦ elim (of_now u j).1 [
          | inl e ↦ absurd (ne (sym e))
          | inr k ↦ (let d = then_counted S a H l i h x u k in
              let n = now_wrote S a H l i h x u d.0 d.1 in
              same_order S a H l i h x t.0 u (began, p) n.1 ne ∙ none_follows u k)
        ]
      ])
    where
      none_follows : (u : ℕ) → In u (counted (committed Q) Q x) → precedes S Q x t.0 u ≡ false
      none_follows u k =
          let z = filter-In (λ w. committed Q w && wrote Q w x) u (txns Q) k in
          let y = list_all_at (λ w. not (committed Q w && wrote Q w x && precedes S Q x t.0 w)) (txns Q) u (unfold is_newest in f) z.0 in
          false_from_ne_true _ (λ q. both_ways _ (not-true _ y) (and_from _ _ z.1 q))

  -- the latest writer before is still the latest if it does not precede t, or t has no version of x
  others_left : (m : ℕ) → latest S Q x (counted (committed Q) Q x) ≡ Some m → (put_at H t.0 x < length H → precedes S H x m t.0 ≡ false) → latest S H x (counted (committed H) H x) ≡ Some m
  others_left m is beside = still_latest S a H l i h x (counted (committed H) H x) (λ w j. (of_now w j).0) of_then m is (λ w j. elim (of_now w j).1 [
    | inl e ↦ inr (subst (λ (z : ℕ). precedes S H x m z ≡ false) (sym e) (beside (subst (λ (z : ℕ). put_at H z x < length H) e (of_now w j).0.put)))
    | inr k ↦ inl k
  ])

  nobody_left : latest S Q x (counted (committed Q) Q x) ≡ None → (put_at H t.0 x < length H → ⊥) → latest S H x (counted (committed H) H x) ≡ None
  nobody_left none never = latest_nobody S H x (counted (committed H) H x) (λ w j. elim (of_now w j).1 [
    | inl e ↦ never (subst (λ (z : ℕ). put_at H z x < length H) e (of_now w j).0.put)
    | inr k ↦ nobody_then S a H l i h x none w k
  ])

  -- if a committed version follows t's, the latest writer before does not precede t
  not_behind : (m w : ℕ) → latest S Q x (counted (committed Q) Q x) ≡ Some m → put_at H t.0 x < i → In w (counted (committed Q) Q x) → precedes S Q x t.0 w ≡ true → precedes S H x m t.0 ≡ false
  not_behind m w is p j ahead =
      let top = latest-some S Q x (counted (committed Q) Q x) m is in
      let dm = then_counted S a H l i h x m top.0 in
      let dw = then_counted S a H l i h x w j in
      let nm = now_wrote S a H l i h x m dm.0 dm.1 in
      let nw = now_wrote S a H l i h x w dw.0 dw.1 in
      let mine : Wrote H x t.0 = record { done = commits_from H t.0 done_now; put = omega arith } in
      let ne : t.0 ≢ w = λ e. not_yet (subst (λ (z : ℕ). committed Q z ≡ true) (sym e) dw.1) in
      let before_w : precedes S H x t.0 w ≡ true = same_order S a H l i h x t.0 w (began, p) nw.1 ne ∙ ahead in
      false_from_ne_true _ (λ behind.
      let to_w : precedes S H x m w ≡ true = transitive S a H l x m t.0 w nm.0 mine nw.0 behind before_w in
      elim (cases_eq m w) [
        | inl e ↦ both_ways _ (subst (λ (z : ℕ). precedes S H x m z ≡ false) e (precedes_irreflexive S H x m)) to_w
        | inr apart ↦ both_ways _ (same_order S a H l i h x m w (nm.1, nm.2) nw.1 apart ∙ top.1 w j) to_w
      ])

  -- t's last put of x, if no committed version follows it
  abbrev pub left_by_it : Option (Option ℤ)
  left_by_it = cond (is_newest S Q t.0 x) (last_put Q t.0 x) None

  table : (R : List Event) (o : Option ℕ) → latest S R x (counted (committed R) R x) ≡ o → final_table X R x ≡ value_of X R x o
  unfolding final_table
  table R o is = ap (value_of X R x) is

  same_puts : last_put H t.0 x ≡ last_put Q t.0 x
  unfolding last_put
  same_puts = ap (λ (R : List Event). last_put R t.0 x) (sym was)

  wrote_there : wrote Q t.0 x ≡ true → put_at Q t.0 x < length Q
  unfolding wrote
  wrote_there r = ltb-true _ _ r

  wrote_not : wrote Q t.0 x ≡ false → length Q ≤ put_at Q t.0 x
  unfolding wrote
  wrote_not r = ltb-false _ _ r

  from_others : (o : Option ℕ) → latest S Q x (counted (committed Q) Q x) ≡ o → ((m : ℕ) → o ≡ Some m → put_at H t.0 x < length H → precedes S H x m t.0 ≡ false)
      → (o ≡ None → put_at H t.0 x < length H → ⊥) → final_table X H x ≡ final_table X Q x
  from_others (Some m) is beside none = table H (Some m) (others_left m is (beside m refl)) ∙ value_then S a H l i h x X m is ∙ sym (table Q (Some m) is)
  from_others None is beside none = table H None (nobody_left is (none refl)) ∙ sym (table Q None is)

  nothing : (c : Bool) → last_put Q t.0 x ≡ None → cond c (last_put Q t.0 x) None ≡ None
  nothing true e = e
  nothing false e = refl

  by_case : (b : Bool) → wrote Q t.0 x ≡ b → (c : Bool) → is_newest S Q t.0 x ≡ c → final_table X H x ≡ unwrap_or (cond c (last_put Q t.0 x) None) (final_table X Q x)
  by_case true r true f =
      let v = last_put-some Q t.0 x (wrote_there r) in
      table H (Some t.0) (newest_left r f) ∙ ap (λ (o : Option (Option ℤ)). unwrap_or o None) (same_puts ∙ v.1) ∙ sym (ap (λ (o : Option (Option ℤ)). unwrap_or o (final_table X Q x)) v.1)
  by_case true r false f =
      let w = followed f in
      from_others (latest S Q x (counted (committed Q) Q x)) refl (λ m is p. not_behind m w.0 is (own_wrote r) w.1 w.2) (λ none p. nobody_then S a H l i h x none w.0 w.1)
  by_case false r c f =
      let never : (put_at H t.0 x < length H → ⊥) = (λ p. both_ways _ r (wrote-upto H i t.0 x h ∙ lt-ltb _ _ (own_put p))) in
      from_others (latest S Q x (counted (committed Q) Q x)) refl (λ m is p. absurd (never p)) (λ none p. never p)
      ∙ sym (ap (λ (o : Option (Option ℤ)). unwrap_or o (final_table X Q x)) (nothing c (last_put-none Q t.0 x (wrote_not r))))

  pub one_commit : final_table X H x ≡ unwrap_or left_by_it (final_table X Q x)
  one_commit = by_case (wrote Q t.0 x) refl (is_newest S Q t.0 x) refl

  -- the same, stated with the history before the commit
  pub after_commit : final_table X H x ≡ unwrap_or (cond (is_newest S P t.0 x) (last_put P t.0 x) None) (final_table X P x)
  after_commit = one_commit ∙ ap (λ (R : List Event). unwrap_or (cond (is_newest S R t.0 x) (last_put R t.0 x) None) (final_table X R x)) was
