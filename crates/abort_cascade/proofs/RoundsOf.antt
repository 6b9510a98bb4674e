-- A round over the unfinished transactions is a round of the cascade, and the last round names the same culprits.
use Rattle.std.proofs.Common.{◌≡◌, ◌≢◌, ℕ, zero, suc, ◌+◌, ◌<◌, ◌≤◌, Bool, true, false, cond, not, ◌&&◌, ◌||◌, eqb, ltb, List, [], ◌∷◌, ◌++◌, length}
use Rattle.std.proofs.Common.{filter, map, find, take, get_or, Option, Some, None, is_some, unwrap_or, refl, sym, ◌∙◌, ap, subst, inl, inr, arith, lt-ltb}
use Rattle.std.specs.List.{list_any}
use Rattle.std.proofs.lemmas.List.{take_more}
use Rattle.std.proofs.lemmas.Bool.{eqb-true, and_parts, both_ways, or_cases, ltb-true}
use Rattle.teb_rules.specs.declared.names.Txn.{Txn}
use Rattle.teb_rules.proofs.lemmas.names.Bools.{and_true, and_false, eqb_swap}
use Rattle.teb_rules.specs.declared.history.Event.{Event}
use Rattle.teb_rules.specs.history.Phases.{txns, begun_count, begun, committed, aborted, unfinished}
use Rattle.teb_rules.specs.history.Accesses.{read_from}
use Rattle.teb_rules.specs.Cascade.{cascade, blamed, txn}
use Rattle.teb_rules.specs.Serializes.{In}
use Rattle.teb_rules.proofs.lemmas.laws.Serial.{filter-In, numbers-In}
use Rattle.teb_rules.proofs.lemmas.laws.Cascades.{falls, numbers_pos, cascade-In}
use Rattle.dependency_book.specs.Dependencies.{all_sources, unfinished_txns}
use Rattle.dependency_book.specs.Books.{Lists, BookOf, sources_in}
use Rattle.dependency_book.proofs.OrderlyHistories.{unfinished_is, unfinished_parts, known}
use Rattle.abort_cascade.specs.declared.list.TheConstants.{MOST_FALLEN}
use Rattle.abort_cascade.specs.Recoverable.{IsRecoverable}
use Rattle.abort_cascade.specs.Rounds.{is_member, culprit, with_culprit, round_of, blames}
use Rattle.dependency_book.proofs.Sources.{has_source, sources_ascend, sources_standing, find_least, IsLeast}
use Rattle.dependency_book.proofs.Positive.{orderly_begun, begun_pos}
use Rattle.teb_rules.proofs.lemmas.history.LeastNumbers.{numbers_find}
use Rattle.abort_cascade.proofs.Stages.{stage, stage_none, stage_next, stage_length, stage_last, stage_step}
use Rattle.teb_rules.proofs.lemmas.laws.Lists.{list_any_In}

-- a round visits the transactions one after another
module _ (b : Lists) (t : ℕ) (fell : List (Txn × Txn)) where
  with_append : (u : Txn) (c : Option Txn) (xs ys : List (Txn × Txn)) → with_culprit u c (xs ++ ys) ≡ with_culprit u c xs ++ ys
  with_append u None xs ys = refl
  with_append u (Some w) xs ys = refl

  round_append : (xs ys : List Txn) → round_of b t fell (xs ++ ys) ≡ round_of b t fell xs ++ round_of b t fell ys
  round_append [] ys = refl
  round_append (u ∷ us) ys = ap (with_culprit u (culprit b t fell u)) (round_append us ys) ∙ with_append u (culprit b t fell u) (round_of b t fell us) (round_of b t fell ys)

  pub round_more : (us : List Txn) (i : ℕ) (d : Txn) → i < length us → round_of b t fell (take (i + 1) us) ≡ round_of b t fell (take i us)
      ++ with_culprit (get_or us i d) (culprit b t fell (get_or us i d)) []
  round_more us i d lt = ap (round_of b t fell) (take_more us i d lt) ∙ round_append (take i us) (get_or us i d ∷ [])

  longer : (u : Txn) (c : Option Txn) (xs ys : List (Txn × Txn)) → length xs < length ys → length (with_culprit u c xs) < length (with_culprit u c ys)
  longer u None xs ys h = h
  longer u (Some w) xs ys h = omega arith

  pub round_room : (us : List Txn) (i : ℕ) (d w : Txn) → i < length us → culprit b t fell (get_or us i d) ≡ Some w → length (round_of b t fell (take i us)) < length (round_of b t fell us)
  round_room [] i d w lt h = absurd (omega arith)
  round_room (u ∷ us) zero d w lt h = subst (λ (c : Option Txn). 0 < length (with_culprit u c (round_of b t fell us))) (sym h) (omega arith)
  round_room (u ∷ us) (suc i) d w lt h = longer u (culprit b t fell u) (round_of b t fell (take i us)) (round_of b t fell us) (round_room us i d w (omega arith) h)

-- the transactions of a round
abbrev pub fallen_numbers : List (Txn × Txn) → List ℕ
fallen_numbers fell = map (λ p. p.0.0) fell

length-fallen : (fell : List (Txn × Txn)) → length (fallen_numbers fell) ≡ length fell
length-fallen [] = refl
length-fallen (p ∷ ps) = ap suc (length-fallen ps)

-- whether some element of xs is related to some element of ys, searched in either order
any_swap : {A B : Type 0} (R : A → B → Bool) (xs : List A) (ys : List B) → list_any (λ x. list_any (R x) ys) xs ≡ list_any (λ y. list_any (λ x. R x y) xs) ys
any_swap R [] ys = sym (nobody ys)
  where
    nobody : {B : Type 0} (ys : List B) → list_any (λ y. false) ys ≡ false
    nobody [] = refl
    nobody (y ∷ ys) = nobody ys
any_swap {A} {B} R (x ∷ xs) ys = ap (λ (o : Bool). list_any (R x) ys || o) (any_swap R xs ys) ∙ sym (apart ys)
  where
    regroup : (a b c d : Bool) → ((a || b) || (c || d)) ≡ ((a || c) || (b || d))
    regroup true b c d = refl
    regroup false true true d = refl
    regroup false true false d = refl
    regroup false false c d = refl

    apart : (zs : List B) → list_any (λ y. R x y || list_any (λ x. R x y) xs) zs ≡ (list_any (R x) zs || list_any (λ y. list_any (λ x. R x y) xs) zs)
    apart [] = refl
    apart (z ∷ zs) = ap (λ (o : Bool). (R x z || list_any (λ x. R x z) xs) || o) (apart zs) ∙ regroup (R x z) (list_any (λ x. R x z) xs) (list_any (R x) zs)
        (list_any (λ y. list_any (λ x. R x y) xs) zs)

any_alike : {A : Type 0} (p q : A → Bool) (xs : List A) → ((x : A) → p x ≡ q x) → list_any p xs ≡ list_any q xs
any_alike p q [] f = refl
any_alike p q (x ∷ xs) f = λ j. f x j || any_alike p q xs f j

any_alike_in : (p q : ℕ → Bool) (xs : List ℕ) → ((x : ℕ) → In x xs → p x ≡ q x) → list_any p xs ≡ list_any q xs
any_alike_in p q [] f = refl
any_alike_in p q (x ∷ xs) f = λ j. f x (inl refl) j || any_alike_in p q xs (λ y i. f y (inr i)) j

found_any : (q : Txn → Bool) (ts : List Txn) → is_some (find q ts) ≡ list_any q ts
found_any q [] = refl
found_any q (x ∷ xs) = go (q x) (found_any q xs)
  where
    go : (b : Bool) → is_some (find q xs) ≡ list_any q xs → is_some (cond b (Some x) (find q xs)) ≡ (b || list_any q xs)
    go true h = refl
    go false h = h

member_number : (fell : List (Txn × Txn)) (w : ℕ) → is_member fell w ≡ list_any (λ a. eqb w a) (fallen_numbers fell)
member_number [] w = refl
member_number (p ∷ ps) w = λ j. eqb_swap p.0.0 w j || member_number ps w j

-- tests that agree on a list filter it alike
filter_alike_in : (p q : ℕ → Bool) (xs : List ℕ) → ((x : ℕ) → In x xs → q x ≡ p x) → filter q xs ≡ filter p xs
filter_alike_in p q [] f = refl
filter_alike_in p q (x ∷ xs) f = λ j. cond (f x (inl refl) j) (x ∷ filter_alike_in p q xs (λ y i. f y (inr i)) j) (filter_alike_in p q xs (λ y i. f y (inr i)) j)

filter_twice : (p r : ℕ → Bool) (xs : List ℕ) → filter r (filter p xs) ≡ filter (λ x. r x && p x) xs
filter_twice p r [] = refl
filter_twice p r (x ∷ xs) = go (p x) (filter_twice p r xs)
  where
    go : (b : Bool) → filter r (filter p xs) ≡ filter (λ x. r x && p x) xs → filter r (cond b (x ∷ filter p xs) (filter p xs)) ≡ cond (r x && b) (x ∷ filter (λ x. r x && p x) xs)
        (filter (λ x. r x && p x) xs)
    go true ih = ap (λ (ys : List ℕ). cond (r x) (x ∷ ys) ys) ih ∙ ap (λ (o : Bool). cond o (x ∷ filter (λ x. r x && p x) xs) (filter (λ x. r x && p x) xs)) (sym (and_true (r x)))
    go false ih = ih ∙ ap (λ (o : Bool). cond o (x ∷ filter (λ x. r x && p x) xs) (filter (λ x. r x && p x) xs)) (sym (and_false (r x)))

-- the numbers of the transactions that fall in a round
round_numbers : (b : Lists) (t : ℕ) (fell : List (Txn × Txn)) (ns : List ℕ) → fallen_numbers (round_of b t fell (map (λ u. record { 0 = u }) ns)) ≡ filter
    (λ u. is_some (culprit b t fell (record { 0 = u }))) ns
round_numbers b t fell [] = refl
round_numbers b t fell (n ∷ ns) = go (culprit b t fell (record { 0 = n })) (round_numbers b t fell ns)
  where
    go : (c : Option Txn) → fallen_numbers (round_of b t fell (map (λ u. record { 0 = u }) ns)) ≡ filter (λ u. is_some (culprit b t fell (record { 0 = u }))) ns
        → fallen_numbers (with_culprit (record { 0 = n }) c (round_of b t fell (map (λ u. record { 0 = u }) ns))) ≡ cond (is_some c)
        (n ∷ filter (λ u. is_some (culprit b t fell (record { 0 = u }))) ns) (filter (λ u. is_some (culprit b t fell (record { 0 = u }))) ns)
    go None ih = ih
    go (Some w) ih = ap (λ (xs : List ℕ). n ∷ xs) ih

-- u read from v, which is t, aborted or in t's cascade
abbrev Blames : List Event → ℕ → ℕ → ℕ → Bool
Blames H t u v = read_from H u v && (eqb v t || aborted H v || list_any (eqb v) (cascade H t))

module _ (b : Lists) (H : List Event) (is : BookOf b H) (t : ℕ) (now : unfinished H t ≡ true) (sure : IsRecoverable H) where
  abbrev AllUnfinished : List ℕ → Type 0
  AllUnfinished us = (a : ℕ) → In a us → unfinished H a ≡ true

  positive : (a : ℕ) → unfinished H a ≡ true → 0 < a
  positive a h = begun_pos H a is.orderly (unfinished_parts H a h).0

  txns_begun : (u : ℕ) → In u (txns H) → begun H u ≡ true
  unfolding txns
  txns_begun u i = orderly_begun H u is.orderly (numbers_pos (begun_count H) u i) (numbers-In (begun_count H) u i)

  -- an unfinished transaction falls in a round if and only if it read from t or from one that fell before
  culprit_any : (fell : List (Txn × Txn)) (u : ℕ) → unfinished H u ≡ true → AllUnfinished (fallen_numbers fell)
      → is_some (culprit b t fell (record { 0 = u })) ≡ (not (eqb u t) && list_any (read_from H u) (t ∷ fallen_numbers fell))
  culprit_any fell u un all = go (eqb u t)
    where
      listed : sources_in b (record { 0 = u }) ≡ all_sources H (record { 0 = u })
      listed = is.sources (record { 0 = u }) ∙ sources_standing H (record { 0 = u }) (unfinished_parts H u un).2

      among : (w : Txn) → (eqb w.0 t || is_member fell w.0) ≡ list_any (λ a. eqb w.0 a) (t ∷ fallen_numbers fell)
      among w = ap (λ (o : Bool). eqb w.0 t || o) (member_number fell w.0)

      any : list_any (λ w. eqb w.0 t || is_member fell w.0) (all_sources H (record { 0 = u })) ≡ list_any (read_from H u) (t ∷ fallen_numbers fell)
      any =
          any_alike (λ w. eqb w.0 t || is_member fell w.0) (λ w. list_any (λ a. eqb w.0 a) (t ∷ fallen_numbers fell)) (all_sources H (record { 0 = u })) among
          ∙ any_swap (λ (w : Txn) (a : ℕ). eqb w.0 a) (all_sources H (record { 0 = u })) (t ∷ fallen_numbers fell)
          ∙ any_alike_in (λ a. list_any (λ (w : Txn). eqb w.0 a) (all_sources H (record { 0 = u }))) (read_from H u) (t ∷ fallen_numbers fell)
          (λ a i. has_source H (record { 0 = u }) (record { 0 = a })
          ∙ ap (λ (o : Bool). o && read_from H u a) (lt-ltb 0 a (positive a (elim i [ inl e ↦ subst (λ (z : ℕ). unfinished H z ≡ true) e now | inr j ↦ all a j ]))))

      go : (o : Bool) → is_some (cond o None (find (λ w. eqb w.0 t || is_member fell w.0) (sources_in b (record { 0 = u })))) ≡ (not o && list_any (read_from H u) (t ∷ fallen_numbers fell))
      go true = refl
      go false = found_any (λ w. eqb w.0 t || is_member fell w.0) (sources_in b (record { 0 = u })) ∙ ap (list_any (λ w. eqb w.0 t || is_member fell w.0)) listed ∙ any

  -- a transaction that falls is unfinished
  falls_unfinished : (us : List ℕ) (u : ℕ) → AllUnfinished us → In u (txns H) → falls H t us u ≡ true → unfinished H u ≡ true
  unfolding falls
  falls_unfinished us u all i h =
      let p = and_parts (not (aborted H u) && not (eqb u t)) (list_any (read_from H u) (t ∷ us)) h in
      let q = and_parts (not (aborted H u)) (not (eqb u t)) p.0 in
      let r = list_any_In (read_from H u) (t ∷ us) p.1 in
      let source : unfinished H r.0 ≡ true = elim r.1 [ inl e ↦ subst (λ (z : ℕ). unfinished H z ≡ true) e now | inr j ↦ all r.0 j ] in
      unfinished_is H u ∙ go (begun H u) (txns_begun u i) (committed H u) refl (aborted H u) q.0 r.0 source r.2
    where
      go : (x : Bool) → x ≡ true → (y : Bool) → committed H u ≡ y → (z : Bool) → not z ≡ true → (w : ℕ) → unfinished H w ≡ true → read_from H u w ≡ true → (x && not y && not z) ≡ true
      go true e true k z n w s r = absurd (both_ways (committed H w) (unfinished_parts H w s).1 (sure.committed u w k r (positive w s)))
      go true e false k true n w s r = n
      go true e false k false n w s r = refl
      go false e y k z n w s r = e

  falls_same : (fell : List (Txn × Txn)) (u : ℕ) → AllUnfinished (fallen_numbers fell) → In u (txns H) → (is_some (culprit b t fell (record { 0 = u })) && unfinished H u) ≡ falls H t
      (fallen_numbers fell) u
  unfolding falls
  falls_same fell u all i = go (unfinished H u) refl
    where
      no : (f : Bool) → (f ≡ true → ⊥) → false ≡ f
      no true h = absurd (h refl)
      no false h = refl

      go : (o : Bool) → unfinished H u ≡ o → (is_some (culprit b t fell (record { 0 = u })) && o) ≡ (not (aborted H u) && not (eqb u t) && list_any (read_from H u) (t ∷ fallen_numbers fell))
      go true h = and_true (is_some (culprit b t fell (record { 0 = u }))) ∙ culprit_any fell u h all
          ∙ sym (ap (λ (o : Bool). not o && not (eqb u t) && list_any (read_from H u) (t ∷ fallen_numbers fell)) (unfinished_parts H u h).2)
      go false h = and_false (is_some (culprit b t fell (record { 0 = u }))) ∙ no _ (λ f. let z : true ≡ false = sym (falls_unfinished (fallen_numbers fell) u all i (unfold falls in f)) ∙ h in cc)

  pub round_falls : (fell : List (Txn × Txn)) → AllUnfinished (fallen_numbers fell) → fallen_numbers (round_of b t fell b.unfinished) ≡ filter (falls H t (fallen_numbers fell)) (txns H)
  unfolding unfinished_txns
  round_falls fell all =
      ap (λ (us : List Txn). fallen_numbers (round_of b t fell us)) is.unfinished
      ∙ round_numbers b t fell (filter (unfinished H) (txns H))
      ∙ filter_twice (unfinished H) (λ u. is_some (culprit b t fell (record { 0 = u }))) (txns H)
      ∙ filter_alike_in (falls H t (fallen_numbers fell)) (λ u. is_some (culprit b t fell (record { 0 = u })) && unfinished H u) (txns H) (λ u i. falls_same fell u all i)

  stage_unfinished : (k : ℕ) → AllUnfinished (stage H t k)
  stage_unfinished zero a i = absurd (subst (In a) (stage_none H t) i)
  stage_unfinished (suc k) a i =
      let r = filter-In (falls H t (stage H t k)) a (txns H) (subst (In a) (stage_next H t k) i) in
      falls_unfinished (stage H t k) a (stage_unfinished k) r.0 r.1

  pub round_stage : (fell : List (Txn × Txn)) (k : ℕ) → fallen_numbers fell ≡ stage H t k → fallen_numbers (round_of b t fell b.unfinished) ≡ stage H t (suc k)
  round_stage fell k e =
      round_falls fell (λ a i. stage_unfinished k a (subst (In a) e i)) ∙ ap (λ (us : List ℕ). filter (falls H t us) (txns H)) e ∙ sym (stage_next H t k)

  -- the culprit of a transaction that falls is the one that the cascade blames
  pub culprit_blamed : (fell : List (Txn × Txn)) → fallen_numbers fell ≡ cascade H t → (u : ℕ) → unfinished H u ≡ true → (w : Txn) → culprit b t fell (record { 0 = u }) ≡ Some w
      → w ≡ txn (blamed H t u)
  unfolding blamed txns
  culprit_blamed fell all u un w h = ap (λ (n : ℕ). record { 0 = n }) (sym (ap (λ (o : Option ℕ). unwrap_or o 0) found))
    where
      stands : aborted H u ≡ false
      stands = (unfinished_parts H u un).2

      listed : sources_in b (record { 0 = u }) ≡ all_sources H (record { 0 = u })
      listed = is.sources (record { 0 = u }) ∙ sources_standing H (record { 0 = u }) stands

      open_culprit : (o : Bool) → cond o None (find (λ v. eqb v.0 t || is_member fell v.0) (sources_in b (record { 0 = u }))) ≡ Some w
          → find (λ v. eqb v.0 t || is_member fell v.0) (sources_in b (record { 0 = u })) ≡ Some w
      open_culprit true h = absurd (cc)
      open_culprit false h = h

      least : IsLeast (λ v. eqb v t || is_member fell v) (all_sources H (record { 0 = u })) w
      least = find_least (λ v. eqb v t || is_member fell v) (all_sources H (record { 0 = u })) w (sources_ascend H (record { 0 = u }))
          (sym (ap (find (λ v. eqb v.0 t || is_member fell v.0)) listed) ∙ open_culprit (eqb u t) h)

      read : (ltb 0 w.0 && read_from H u w.0) ≡ true
      read = sym (has_source H (record { 0 = u }) w) ∙ least.there

      in_cascade : (v : ℕ) → is_member fell v ≡ list_any (eqb v) (cascade H t)
      in_cascade v = member_number fell v ∙ ap (list_any (eqb v)) all

      -- a source is to blame if and only if it passes the test of the round
      same : (v : ℕ) → read_from H u v ≡ true → (read_from H u v && (eqb v t || aborted H v || list_any (eqb v) (cascade H t))) ≡ (eqb v t || is_member fell v)
      same v r = (λ j. r j && (eqb v t || sure.settled u v stands r j || list_any (eqb v) (cascade H t))) ∙ tidy (eqb v t) ∙ ap (λ (o : Bool). eqb v t || o) (sym (in_cascade v))
        where
          tidy : (o : Bool) → (true && (o || false || list_any (eqb v) (cascade H t))) ≡ (o || list_any (eqb v) (cascade H t))
          tidy true = refl
          tidy false = refl

      passes : Blames H t u w.0 ≡ true
      passes = same w.0 (and_parts (ltb 0 w.0) (read_from H u w.0) read).1 ∙ least.passes

      lower : (v : ℕ) → 0 < v → v < w.0 → Blames H t u v ≡ false
      lower v p lt = go (read_from H u v) refl
        where
          go : (o : Bool) → read_from H u v ≡ o → (read_from H u v && (eqb v t || aborted H v || list_any (eqb v) (cascade H t))) ≡ false
          go true r = same v r ∙ least.lower (record { 0 = v }) lt (has_source H (record { 0 = u }) (record { 0 = v }) ∙ (λ j. lt-ltb 0 v p j && r j))
          go false r = ap (λ (o : Bool). o && (eqb v t || aborted H v || list_any (eqb v) (cascade H t))) r

      upto : w.0 ≤ begun_count H
      upto = elim (or_cases (eqb w.0 t) (is_member fell w.0) least.passes) [
        | inl e ↦ subst (λ (n : ℕ). n ≤ begun_count H) (sym (eqb-true w.0 t e)) ((known H t is.orderly).begins (unfinished_parts H t now).0)
        | inr e ↦
            let r = list_any_In (eqb w.0) (cascade H t) (sym (in_cascade w.0) ∙ e) in
            let i = (cascade-In H t r.0 r.1).0 in
            subst (λ (n : ℕ). n ≤ begun_count H) (sym (eqb-true w.0 r.0 r.2)) (numbers-In (begun_count H) r.0 i)
      ]

      found : find (λ v. read_from H u v && (eqb v t || aborted H v || list_any (eqb v) (cascade H t))) (txns H) ≡ Some w.0
      found = numbers_find (Blames H t u) (begun_count H) w.0 (ltb-true 0 w.0 (and_parts (ltb 0 w.0) (read_from H u w.0) read).0) upto passes lower

  paired : (fell : List (Txn × Txn)) → fallen_numbers fell ≡ cascade H t → (ns : List ℕ) → AllUnfinished ns
      → round_of b t fell (map (λ u. record { 0 = u }) ns) ≡ map (λ u. (txn u, txn (blamed H t u))) (fallen_numbers (round_of b t fell (map (λ u. record { 0 = u }) ns)))
  paired fell all [] f = refl
  paired fell all (n ∷ ns) f = go (culprit b t fell (record { 0 = n })) (culprit_blamed fell all n (f n (inl refl))) (paired fell all ns (λ u i. f u (inr i)))
    where
      go : (c : Option Txn) → ((w : Txn) → c ≡ Some w → w ≡ txn (blamed H t n)) → round_of b t fell (map (λ u. record { 0 = u }) ns) ≡ map (λ u. (txn u, txn (blamed H t u)))
          (fallen_numbers (round_of b t fell (map (λ u. record { 0 = u }) ns)))
          → with_culprit (record { 0 = n }) c (round_of b t fell (map (λ u. record { 0 = u }) ns)) ≡ map (λ u. (txn u, txn (blamed H t u)))
          (fallen_numbers (with_culprit (record { 0 = n }) c (round_of b t fell (map (λ u. record { 0 = u }) ns))))
      go None g ih = ih
      go (Some w) g ih = λ j. (record { 0 = n }, g w refl j) ∷ ih j

  -- the last round
  pub round_last : (fell : List (Txn × Txn)) (k : ℕ) → fallen_numbers fell ≡ stage H t k → length (round_of b t fell b.unfinished) ≡ length fell → round_of b t fell b.unfinished ≡ blames H t
  unfolding unfinished_txns
  round_last fell k e n =
      let next = round_stage fell k e in
      let last = stage_last H t k (ap length (sym next) ∙ length-fallen (round_of b t fell b.unfinished) ∙ n ∙ sym (length-fallen fell) ∙ ap length e) in
      let us = filter (unfinished H) (txns H) in
      ap (round_of b t fell) is.unfinished
      ∙ paired fell (e ∙ last.1) us (λ u i. (filter-In (unfinished H) u (txns H) i).1)
      ∙ ap (λ (xs : List Txn). map (λ u. (txn u, txn (blamed H t u))) (fallen_numbers (round_of b t fell xs))) (sym is.unfinished)
      ∙ ap (map (λ u. (txn u, txn (blamed H t u)))) (next ∙ last.0 ∙ last.1)

  pub round_length : (fell : List (Txn × Txn)) (k : ℕ) → fallen_numbers fell ≡ stage H t k → length (cascade H t) ≤ MOST_FALLEN → length (round_of b t fell b.unfinished) ≤ MOST_FALLEN
  round_length fell k e few = omega (arith, sym (length-fallen (round_of b t fell b.unfinished)) ∙ ap length (round_stage fell k e), stage_length H t (suc k))

  -- a round that is not the last adds a transaction
  pub round_grows : (fell : List (Txn × Txn)) (k : ℕ) → fallen_numbers fell ≡ stage H t k → length (round_of b t fell b.unfinished) ≢ length fell
      → length fell < length (round_of b t fell b.unfinished)
  round_grows fell k e ne =
      let was = sym (length-fallen fell) ∙ ap length e in
      let more = sym (length-fallen (round_of b t fell b.unfinished)) ∙ ap length (round_stage fell k e) in
      elim (stage_step H t k) [
        | inl same ↦ absurd (ne (more ∙ sym (ap length same) ∙ sym was))
        | inr lt ↦ omega (arith, was, more, lt)
      ]

-- those that fell are those of some round
pub record IsStage (H : List Event) (t : ℕ) (fell : List (Txn × Txn)) : Type 0 where
  pub rounds : ℕ
  pub is : fallen_numbers fell ≡ stage H t rounds

pub first_stage : (H : List Event) (t : ℕ) (fell : List (Txn × Txn)) → fell ≡ [] → IsStage H t fell
first_stage H t fell e = record { rounds = zero; is = ap fallen_numbers e ∙ sym (stage_none H t) }
