-- The latest writer of a cell, now and at an earlier position.
use Rattle.std.proofs.Common.{◌≡◌, ◌≢◌, ◌⊎◌, ◌<◌, ◌≤◌, ℕ, Bool, true, false, ◌&&◌, List, Option, Some, None, ℤ, refl, sym, ap, subst, ◌∙◌, arith, inl, inr, length, filter, unwrap_or, lt-ltb, ltb-true}
use Rattle.std.proofs.lemmas.Bool.{both_ways, cases_eq, and_from, and_parts, not-true, not_from_false}
use Rattle.teb_rules.specs.declared.names.Cell.{Cell}
use Rattle.teb_rules.specs.declared.history.Event.{Event}
use Rattle.teb_rules.specs.history.Accesses.{wrote, put_at}
use Rattle.teb_rules.specs.history.Phases.{txns, committed, began_at, done_at}
use Rattle.teb_rules.specs.history.Positions.{upto}
use Rattle.teb_rules.specs.Setup.{Setup, Store}
use Rattle.teb_rules.specs.Serializes.{In, value_of}
use Rattle.teb_rules.specs.Versions.{precedes, latest, value_left}
use Rattle.teb_rules.specs.laws.Lawful.{Lawful}
use Rattle.teb_rules.specs.laws.TreeFacts.{TreeFacts}
use Rattle.teb_rules.proofs.lemmas.laws.Locks.{In-txns}
use Rattle.teb_rules.proofs.lemmas.laws.NodeFacts.{precedes-upto, last_put-stable}
use Rattle.teb_rules.proofs.lemmas.laws.Ranks.{commits}
use Rattle.teb_rules.proofs.lemmas.laws.ReadRule.{list_all_at, list_all_from, latest-some, latest-none}
use Rattle.teb_rules.proofs.lemmas.laws.Serial.{In-filter, filter-In, commits_from}
use Rattle.teb_rules.proofs.lemmas.laws.Timeline.{Lawful-upto, granted_at, put_may, unfinished-upto, committed-upto, wrote-upto, put_order}
use Rattle.teb_rules.proofs.lemmas.laws.Transitive.{writers_ordered}
use Rattle.teb_rules.proofs.lemmas.laws.VersionOrder.{Writes, writer_of, precedes_total, precedes_irreflexive}
use Rattle.candidate_reads.proofs.InOrder.{find_only, find_nothing}

-- any two different writers in the list are ordered
abbrev pub AreOrdered : Setup → List Event → Cell → List ℕ → Type 0
AreOrdered S H x us = (u w : ℕ) → In u us → In w us → u ≢ w → (precedes S H x u w ≡ true) ⊎ (precedes S H x w u ≡ true)

-- a writer that no other follows is the latest
pub latest_is : (S : Setup) (H : List Event) (x : Cell) (us : List ℕ) (m : ℕ) → AreOrdered S H x us → In m us → ((u : ℕ) → In u us → precedes S H x m u ≡ false) → latest S H x us ≡ Some m
unfolding latest
latest_is S H x us m order there none =
    find_only _ us m there
    (list_all_from _ us (λ v i. not_from_false _ (none v i)))
    (λ u i h. elim (cases_eq u m) [
      | inl e ↦ e
      | inr ne ↦ elim (order u m i there ne) [
        | inl p ↦ absurd (both_ways _ (not-true _ (list_all_at _ us m h there)) p)
        | inr p ↦ absurd (both_ways _ (none u i) p)
      ]
    ])

pub latest_nobody : (S : Setup) (H : List Event) (x : Cell) (us : List ℕ) → ((u : ℕ) → In u us → ⊥) → latest S H x us ≡ None
unfolding latest
latest_nobody S H x us f = find_nothing _ us f

-- w is committed and has put x
pub record Wrote (H : List Event) (x : Cell) (w : ℕ) : Type 0 where
  pub done : done_at H w < length H
  pub put : put_at H w x < length H

-- the writers of x that c counts as committed
abbrev pub counted : (ℕ → Bool) → List Event → Cell → List ℕ
counted c H x = filter (λ w. c w && wrote H w x) (txns H)

pub wrote_put : (H : List Event) (w : ℕ) (x : Cell) → wrote H w x ≡ true → put_at H w x < length H
unfolding wrote
wrote_put H w x h = ltb-true _ _ h

pub put_wrote : (H : List Event) (w : ℕ) (x : Cell) → put_at H w x < length H → wrote H w x ≡ true
unfolding wrote
put_wrote H w x h = lt-ltb _ _ h

module _ (S : Setup) (a : TreeFacts S) (H : List Event) (l : Lawful S H) (x : Cell) where
  pub stands : (w : ℕ) → Wrote H x w → Writes H x w
  stands w r = record { put = r.put; stands = (commits S H w l r.done).1 }

  pub writers_ordered_by : (u w : ℕ) → Wrote H x u → Wrote H x w → u ≢ w → (precedes S H x u w ≡ true) ⊎ (precedes S H x w u ≡ true)
  writers_ordered_by u w p q ne = precedes_total S a H x u w l (stands u p) (stands w q) ne

  pub transitive : (u v w : ℕ) → Wrote H x u → Wrote H x v → Wrote H x w → precedes S H x u v ≡ true → precedes S H x v w ≡ true → precedes S H x u w ≡ true
  transitive u v w p q r = writers_ordered S a H l x 0 u v w (writer_of S H x 0 u l (stands u p)) (writer_of S H x 0 v l (stands v q)) (writer_of S H x 0 w l (stands w r))

  pub in_counted : (c : ℕ → Bool) (w : ℕ) → c w ≡ true → Wrote H x w → In w (counted c H x)
  in_counted c w h r = In-filter (λ w. c w && wrote H w x) w (txns H) (In-txns S H w l (let z = commits S H w l r.done in let d = r.done in omega arith)) (and_from _ _ h (put_wrote H w x r.put))

  pub counted_in : (c : ℕ → Bool) (w : ℕ) → In w (counted c H x) → (c w ≡ true) × (put_at H w x < length H)
  counted_in c w i = let p = and_parts _ _ (filter-In (λ w. c w && wrote H w x) w (txns H) i).1 in (p.0, wrote_put H w x p.1)

-- the history H, and its prefix Q up to position i
module _ (S : Setup) (a : TreeFacts S) (H : List Event) (l : Lawful S H) (i : ℕ) (h : i ≤ length H) (x : Cell) where
  abbrev Q : List Event
  Q = upto i H

  pub lq : Lawful S Q
  lq = Lawful-upto S H i l

  -- a transaction that is committed in Q committed before position i
  pub was_done : (w : ℕ) → committed Q w ≡ true → done_at H w < i
  was_done w c = ltb-true _ _ (sym (committed-upto H i w h) ∙ c)

  pub then_wrote : (w : ℕ) → committed Q w ≡ true → put_at H w x < length H → Wrote Q x w
  then_wrote w c p =
      let d = was_done w c in
      let o = put_order S H w x l p in
      record { done = commits_from Q w c; put = wrote_put Q w x (wrote-upto H i w x h ∙ lt-ltb _ _ (omega arith)) }

  pub now_wrote : (w : ℕ) → Wrote Q x w → (committed Q w ≡ true) → Wrote H x w × (began_at H w < i) × (put_at H w x < i)
  now_wrote w r c =
      let d = was_done w c in
      let p : put_at H w x < i = ltb-true _ _ (sym (wrote-upto H i w x h) ∙ put_wrote Q w x r.put) in
      let o = put_order S H w x l (omega arith) in
      (record { done = omega arith; put = omega arith }, omega arith, p)

  -- the order of a writer from before position i and a transaction begun before it is the same in H and in Q
  pub same_order : (u w : ℕ) → (began_at H u < i) × (put_at H u x < i) → began_at H w < i → u ≢ w → precedes S H x u w ≡ precedes S Q x u w
  same_order u w p q ne = sym (precedes-upto S a H i x u w l h p.0 q p.1 ne)

  -- a transaction that is committed in Q leaves the same value in H and in Q
  pub same_left : (w : ℕ) → committed Q w ≡ true → value_left H w x ≡ value_left Q w x
  same_left w c = ap (λ (o : Option (Option ℤ)). unwrap_or o None) (last_put-stable H i w x h (λ j e le lt is put.
      let d = was_done w c in
      let m = put_may S (upto j H) e w x put (granted_at S H j e l is) in
      let u = unfinished-upto H j w (omega arith) m.unfinished in
      absurd (omega (arith, u.1))))

  pub then_counted : (w : ℕ) → In w (counted (committed Q) Q x) → Wrote Q x w × (committed Q w ≡ true)
  then_counted w j = let p = counted_in S a Q lq x (committed Q) w j in (record { done = commits_from Q w p.0; put = p.1 }, p.0)

  -- the latest writer m of Q is the latest of a list that has the writers of Q and otherwise only writers that m does not precede
  pub still_latest : (ws : List ℕ) → ((w : ℕ) → In w ws → Wrote H x w) → ((w : ℕ) → In w (counted (committed Q) Q x) → In w ws)
      → (m : ℕ) → latest S Q x (counted (committed Q) Q x) ≡ Some m
      → ((w : ℕ) → In w ws → In w (counted (committed Q) Q x) ⊎ (precedes S H x m w ≡ false)) → latest S H x ws ≡ Some m
  still_latest ws all old m is new =
      let r = latest-some S Q x (counted (committed Q) Q x) m is in
      let pm = then_counted m r.0 in
      let nm = now_wrote m pm.0 pm.1 in
      latest_is S H x ws m (λ u w j k ne. writers_ordered_by S a H l x u w (all u j) (all w k) ne) (old m r.0) (λ u j. elim (new u j) [
        | inl was ↦ (let pu = then_counted u was in
            let nu = now_wrote u pu.0 pu.1 in
            elim (cases_eq m u) [
              | inl e ↦ subst (λ (z : ℕ). precedes S H x m z ≡ false) e (precedes_irreflexive S H x m)
              | inr ne ↦ same_order m u (nm.1, nm.2) nu.1 ne ∙ r.1 u was
            ])
        | inr after ↦ after
      ])

  -- if Q has no latest writer of x, it has no committed writer of x
  pub nobody_then : latest S Q x (counted (committed Q) Q x) ≡ None → (w : ℕ) → In w (counted (committed Q) Q x) → ⊥
  nobody_then none w j = latest-none S Q x (counted (committed Q) Q x) w (λ b k. precedes_irreflexive S Q x b)
      (λ b c d k1 k2 k3. transitive S a Q lq x b c d (then_counted b k1).0 (then_counted c k2).0 (then_counted d k3).0) none j

  -- a transaction that is committed in Q and has put x in H had put it in Q
  pub counts_then : (w : ℕ) → In w (counted (committed Q) H x) → In w (counted (committed Q) Q x)
  counts_then w j = let p = counted_in S a H l x (committed Q) w j in in_counted S a Q lq x (committed Q) w p.0 (then_wrote w p.0 p.1)

  pub counts_now : (w : ℕ) → In w (counted (committed Q) Q x) → Wrote H x w
  counts_now w j = let p = then_counted w j in (now_wrote w p.0 p.1).0

  pub value_then : (X : Store) (m : ℕ) → latest S Q x (counted (committed Q) Q x) ≡ Some m → value_of X H x (Some m) ≡ value_of X Q x (Some m)
  value_then X m is = same_left m (then_counted m (latest-some S Q x (counted (committed Q) Q x) m is).0).1

  -- among the writers committed in Q, the latest leaves the same value in H and in Q
  pub same_latest : (X : Store) → value_of X H x (latest S H x (counted (committed Q) H x)) ≡ value_of X Q x (latest S Q x (counted (committed Q) Q x))
  same_latest X = go (latest S Q x (counted (committed Q) Q x)) refl
    where
      go : (o : Option ℕ) → latest S Q x (counted (committed Q) Q x) ≡ o → value_of X H x (latest S H x (counted (committed Q) H x)) ≡ value_of X Q x (latest S Q x (counted (committed Q) Q x))
      go (Some m) is =
          ap (value_of X H x) (still_latest (counted (committed Q) H x) (λ w j. counts_now w (counts_then w j))
          (λ w j. let p = then_counted w j in in_counted S a H l x (committed Q) w p.1 (now_wrote w p.0 p.1).0) m is (λ w j. inl (counts_then w j)))
          ∙ value_then X m is
          ∙ ap (value_of X Q x) (sym is)
      go None is = ap (value_of X H x) (latest_nobody S H x (counted (committed Q) H x) (λ u j. nobody_then is u (counts_then u j))) ∙ ap (value_of X Q x) (sym is)
