-- The effect of a Began on the batches of a node on its path.
use Rattle.std.proofs.Common.{◌≡◌, ◌⊎◌, ℕ, suc, ◌+◌, Bool, true, false, cond, not, ◌&&◌, ◌||◌, eqb, List, [], ◌∷◌, ◌++◌, length}
use Rattle.std.proofs.Common.{filter, map, count_by, Option, Some, None, refl, sym, ◌∙◌, ap, inl, inr, arith, eqb-true, eq-eqb}
use Rattle.std.proofs.lemmas.Bool.{cases_Bool, not-false, not_from_true, ne_eqb, eqb-false}
use Rattle.std.proofs.lemmas.List.{map-append}
use Rattle.std.proofs.lemmas.List.Elements.{filter-append}
use Rattle.teb_rules.specs.declared.names.Txn.{Txn}
use Rattle.teb_rules.specs.declared.names.Session.{Session}
use Rattle.teb_rules.specs.declared.names.Kind.{Kind}
use Rattle.teb_rules.specs.declared.names.Spot.{Spot}
use Rattle.teb_rules.specs.declared.history.Event.{Event}
use Rattle.teb_rules.specs.declared.history.Event.TheVariants.{Began}
use Rattle.teb_rules.specs.history.Positions.{last}
use Rattle.teb_rules.specs.history.Phases.{is_began, begun, unfinished, begun_count, txns}
use Rattle.teb_rules.specs.Setup.{Setup}
use Rattle.teb_rules.specs.Serializes.{In}
use Rattle.teb_rules.specs.Tree.{on, side, on_path, side_at}
use Rattle.teb_rules.specs.Batches.{idle, opens, start}
use Rattle.teb_rules.proofs.lemmas.laws.Serial.{filter-In}
use Rattle.batch_book.specs.Book.{Running, closed_at, is_busy, start_on, admitted_on, admit, rows_joined, running_joined}
use Rattle.batch_book.specs.Histories.{IsNumbered, MayCome, closing, admitted, members, row_of, running_of, rows_in, running_in}
use Rattle.batch_book.proofs.Numbered.{begun_step, begins_new, begins_once, unfinished_from, unfinished_kept, finish_begun}
use Rattle.batch_book.proofs.Numbered.{committed_step, aborted_step, In-txns_begun, txns_began, spot_began, on_kept, side_kept}
use Rattle.batch_book.proofs.Intervals.{start_kept, start_here, start-lt, start_last, last_step, busy_idle, closing_step, closing_here, closing_busy}
use Rattle.batch_book.proofs.Lists.{filter_in, map_in, count_in, count-append, count_zero, map-map}
use Rattle.batch_book.proofs.Idle.{row_path, running_path, idle_running, start_on_is, admitted_on_is, busy_joined}

number_it : (P : List Event) (e : Event) → MayCome P e → IsNumbered P → IsNumbered (e ∷ P)
unfolding IsNumbered
number_it P e m l = (m, l)

module _ (S : Setup) (P : List Event) (n : ℕ) (t : Txn) (z : Session) (k : Kind) (inst : ℕ) (l : IsNumbered P) (m : t.0 ≡ suc (begun_count P))
    (o : on_path S.tree n (record { kind = k; instance = inst }) ≡ true) where
  abbrev e : Event
  e = Began t z k inst

  abbrev s : ℕ
  s = side_at S.tree n (record { kind = k; instance = inst }) t.0

  own : is_began t.0 e ≡ true
  own = eq-eqb t.0 t.0 refl

  new : begun P t.0 ≡ false
  new = begins_new e P t.0 l m own

  old : (u : ℕ) → In u (txns P) → is_began u e ≡ false
  old u i = begins_once e P u l m (In-txns_begun P u l i)

  new_on : on S (e ∷ P) n t.0 ≡ true
  unfolding on
  new_on = ap (on_path S.tree n) (spot_began t z k inst P) ∙ o

  new_side : side S (e ∷ P) n t.0 ≡ s
  unfolding side
  new_side = ap (λ (y : Spot). side_at S.tree n y t.0) (spot_began t z k inst P)

  new_unfinished : unfinished (e ∷ P) t.0 ≡ true
  new_unfinished =
      let f = finish_begun P t.0 l new in
      unfinished_from (e ∷ P) t.0 (begun_step e P t.0 ∙ ap (λ (b : Bool). b || begun P t.0) own) (committed_step e P t.0 ∙ f.0) (aborted_step e P t.0 ∙ f.1)

  old_unfinished : (u : ℕ) → In u (txns P) → unfinished (e ∷ P) u ≡ unfinished P u
  old_unfinished u i = unfinished_kept e P u (old u i) refl refl

  members_new : members S (e ∷ P) n ≡ members S P n ++ t.0 ∷ []
  members_new =
      ap (filter (on S (e ∷ P) n)) (txns_began t z k inst P m)
      ∙ filter-append (on S (e ∷ P) n) (txns P) (t.0 ∷ [])
      ∙ (λ i. filter_in (on S (e ∷ P) n) (on S P n) (txns P) (λ u j. on_kept S e P n u (old u j)) i ++ cond (new_on i) (t.0 ∷ []) [])

  live_new : filter (unfinished (e ∷ P)) (members S (e ∷ P) n) ≡ filter (unfinished P) (members S P n) ++ t.0 ∷ []
  live_new =
      ap (filter (unfinished (e ∷ P))) members_new
      ∙ filter-append (unfinished (e ∷ P)) (members S P n) (t.0 ∷ [])
      ∙ (λ i. filter_in (unfinished (e ∷ P)) (unfinished P) (members S P n) (λ u j. old_unfinished u (filter-In (on S P n) u (txns P) j).0) i ++ cond (new_unfinished i) (t.0 ∷ []) [])

  -- u is on the node and was unfinished before the event
  record Live (u : ℕ) : Type 0 where
    there : In u (txns P)
    is_on : on S P n u ≡ true
    runs : unfinished P u ≡ true

  live : (u : ℕ) → In u (filter (unfinished P) (members S P n)) → Live u
  live u i = let a = filter-In (unfinished P) u (members S P n) i in let b = filter-In (on S P n) u (txns P) a.0 in record { there = b.0; is_on = b.1; runs = a.1 }

  -- the start of the new transaction's batch
  opens_is : opens S n s (e ∷ P) ≡ idle S P n s
  unfolding opens
  opens_is = rw (o, eq-eqb s s refl) refl

  new_start : start S (e ∷ P) n t.0 ≡ cond (is_busy (running_in S P n) s) (last (opens S n s) P) (length P)
  new_start =
      start_here S e P n t.0 new own
      ∙ ap (λ (y : ℕ). last (opens S n y) (e ∷ P)) new_side
      ∙ last_step (opens S n s) e P
      ∙ ap (λ (b : Bool). cond b (length P) (last (opens S n s) P)) (opens_is ∙ idle_running S P n s)
      ∙ flip (is_busy (running_in S P n) s)
    where
      flip : (b : Bool) → cond (not b) (length P) (last (opens S n s) P) ≡ cond b (last (opens S n s) P) (length P)
      flip true = refl
      flip false = refl

  live_start : (u : ℕ) → Live u → side S P n u ≡ s → start S P n u ≡ last (opens S n s) P
  live_start u v q = start_last S P n u l v.runs v.is_on ∙ ap (λ (y : ℕ). last (opens S n y) P) q

  start_found : start_on (running_in S P n) s (length P) ≡ cond (is_busy (running_in S P n) s) (last (opens S n s) P) (length P)
  start_found = start_on_is (running_of S P n) s (length P) (last (opens S n s) P) (filter (unfinished P) (members S P n)) (λ u i q. live_start u (live u i) q)

  -- the number admitted, with the new transaction
  abbrev counted : ℕ → ℕ → ℕ
  counted y a = count_by (λ v. eqb (start S P n v) a) (filter (λ v. on S P n v && eqb (side S P n v) y) (txns P))

  counts : (y a : ℕ) → count_by (λ v. eqb (start S (e ∷ P) n v) a) (filter (λ v. on S (e ∷ P) n v && eqb (side S (e ∷ P) n v) y) (txns (e ∷ P)))
      ≡ counted y a + cond (eqb s y && eqb (start S (e ∷ P) n t.0) a) 1 0
  counts y a =
      let p = λ (v : ℕ). eqb (start S (e ∷ P) n v) a in
      let q = λ (v : ℕ). on S (e ∷ P) n v && eqb (side S (e ∷ P) n v) y in
      let q0 = λ (v : ℕ). on S P n v && eqb (side S P n v) y in
      ap (λ (us : List ℕ). count_by p (filter q us)) (txns_began t z k inst P m)
      ∙ ap (count_by p) (filter-append q (txns P) (t.0 ∷ []))
      ∙ (λ i. count_by p (filter_in q q0 (txns P) (λ u j h. on_kept S e P n u (old u j) h && eqb (side_kept S e P n u (old u j) h) y) i ++ cond (new_on i && eqb (new_side i) y) (t.0 ∷ []) []))
      ∙ count-append p (filter q0 (txns P)) (cond (eqb s y) (t.0 ∷ []) [])
      ∙ (λ i. count_in p (λ v. eqb (start S P n v) a) (filter q0 (txns P))
      (λ u j h. eqb (start_kept S e P n u (In-txns_begun P u l (filter-In q0 u (txns P) j).0) (old u (filter-In q0 u (txns P) j).0) h) a) i + one (eqb s y) (p t.0) i)
    where
      one : (b c : Bool) → count_by (λ v. eqb (start S (e ∷ P) n v) a) (cond b (t.0 ∷ []) []) ≡ cond (b && eqb (start S (e ∷ P) n t.0) a) 1 0
      one true c = last_one (eqb (start S (e ∷ P) n t.0) a)
        where
          last_one : (b : Bool) → 0 + cond b 1 0 ≡ cond b 1 0
          last_one true = refl
          last_one false = refl
      one false c = refl

  old_admitted : (u : ℕ) → Live u → admitted S (e ∷ P) n (side S (e ∷ P) n u) u ≡ cond (eqb (side S P n u) s) (suc (admitted S P n (side S P n u) u)) (admitted S P n (side S P n u) u)
  unfolding admitted
  old_admitted u v =
      let b = old u v.there in
      (λ i. count_by (λ w. eqb (start S (e ∷ P) n w) (start_kept S e P n u (In-txns_begun P u l v.there) b i))
      (filter (λ w. on S (e ∷ P) n w && eqb (side S (e ∷ P) n w) (side_kept S e P n u b i)) (txns (e ∷ P))))
      ∙ counts (side S P n u) (start S P n u)
      ∙ more (cases_Bool (eqb (side S P n u) s))
    where
      busy : side S P n u ≡ s → is_busy (running_in S P n) s ≡ true
      busy q = not-false _ (sym (idle_running S P n s) ∙ busy_idle S P n s u l v.runs v.is_on q)

      same : side S P n u ≡ s → start S (e ∷ P) n t.0 ≡ start S P n u
      same q = new_start ∙ ap (λ (b : Bool). cond b (last (opens S n s) P) (length P)) (busy q) ∙ sym (live_start u v q)

      more : (eqb (side S P n u) s ≡ true) ⊎ (eqb (side S P n u) s ≡ false) → counted (side S P n u) (start S P n u) + cond (eqb s (side S P n u) && eqb (start S (e ∷ P) n t.0) (start S P n u)) 1 0
          ≡ cond (eqb (side S P n u) s) (suc (counted (side S P n u) (start S P n u))) (counted (side S P n u) (start S P n u))
      more (inl q) = let p = eqb-true _ _ q in rw (q, eq-eqb s (side S P n u) (sym p), eq-eqb _ _ (same p)) (omega arith)
      more (inr q) = rw (q, ne_eqb s (side S P n u) (λ p. eqb-false _ _ q (sym p))) (omega arith)

  new_admitted : admitted S (e ∷ P) n (side S (e ∷ P) n t.0) t.0 ≡ suc (admitted_on (running_in S P n) s)
  unfolding admitted
  new_admitted =
      ap (λ (y : ℕ). count_by (λ w. eqb (start S (e ∷ P) n w) (start S (e ∷ P) n t.0)) (filter (λ w. on S (e ∷ P) n w && eqb (side S (e ∷ P) n w) y) (txns (e ∷ P)))) new_side
      ∙ counts s (start S (e ∷ P) n t.0)
      ∙ (λ i. counted s (start S (e ∷ P) n t.0) + cond (eq-eqb s s refl i && eq-eqb (start S (e ∷ P) n t.0) (start S (e ∷ P) n t.0) refl i) 1 0)
      ∙ grow (counted s (start S (e ∷ P) n t.0)) (admitted_on (running_in S P n) s) before
    where
      grow : (a b : ℕ) → a ≡ b → a + 1 ≡ suc b
      grow a b q = omega arith

      none : counted s (length P) ≡ 0
      none = count_zero _ (filter (λ v. on S P n v && eqb (side S P n v) s) (txns P))
          (λ u i. ne_eqb _ _ (λ q. let h = start-lt S P n u (In-txns_begun P u l (filter-In _ u (txns P) i).0) in absurd (omega arith)))

      found : admitted_on (running_in S P n) s ≡ cond (is_busy (running_in S P n) s) (counted s (last (opens S n s) P)) 0
      found = admitted_on_is (running_of S P n) s (counted s (last (opens S n s) P)) (filter (unfinished P) (members S P n))
          (λ u i q. (λ j. counted (q j) (live_start u (live u i) q j)))

      before : counted s (start S (e ∷ P) n t.0) ≡ admitted_on (running_in S P n) s
      before = ap (counted s) new_start ∙ go (is_busy (running_in S P n) s) ∙ sym found
        where
          go : (b : Bool) → counted s (cond b (last (opens S n s) P) (length P)) ≡ cond b (counted s (last (opens S n s) P)) 0
          go true = refl
          go false = none

  pub running_began : running_in S (e ∷ P) n ≡ running_joined (running_in S P n) s t.0 (length P)
  running_began =
      ap (map (running_of S (e ∷ P) n)) live_new
      ∙ map-append (running_of S (e ∷ P) n) (filter (unfinished P) (members S P n)) (t.0 ∷ [])
      ∙ (λ i. each i ++ running_path t.0 _ _ _ _ _ _ new_side (new_start ∙ sym start_found) new_admitted i ∷ [])
    where
      each : map (running_of S (e ∷ P) n) (filter (unfinished P) (members S P n)) ≡ map (admit s) (running_in S P n)
      each =
          map_in (running_of S (e ∷ P) n) (λ u. admit s (running_of S P n u)) (filter (unfinished P) (members S P n))
          (λ u i. let v = live u i in let b = old u v.there in running_path u _ _ _ _ _ _ (side_kept S e P n u b) (start_kept S e P n u (In-txns_begun P u l v.there) b) (old_admitted u v))
          ∙ sym (map-map (running_of S P n) (admit s) (filter (unfinished P) (members S P n)))

  old_closing : (u : ℕ) → In u (txns P) → closing S (e ∷ P) n u ≡ closing S P n u
  old_closing u i = closing_step S e P n u (In-txns_begun P u l i) (old u i) ∙ go (closing S P n u) refl
    where
      open_still : closing S P n u ≡ None → idle S (e ∷ P) n (side S P n u) ≡ false
      open_still c =
          let busy = not-false _ (sym (idle_running S P n (side S P n u)) ∙ closing_busy S P n u (In-txns_begun P u l i) c) in
          idle_running S (e ∷ P) n (side S P n u) ∙ ap (λ (rs : List Running). not (is_busy rs (side S P n u))) running_began
          ∙ not_from_true _ (busy_joined (running_in S P n) _ s (side S P n u) busy)

      go : (c : Option ℕ) → closing S P n u ≡ c → closed_at (idle S (e ∷ P) n (side S P n u)) (length P) c ≡ c
      go (Some c) q = refl
      go None q = ap (λ (b : Bool). cond b (Some (length P)) None) (open_still q)

  pub rows_began : rows_in S (e ∷ P) n ≡ rows_joined (running_in S P n) (rows_in S P n) s t.0 (length P)
  rows_began =
      ap (map (row_of S (e ∷ P) n)) members_new
      ∙ map-append (row_of S (e ∷ P) n) (members S P n) (t.0 ∷ [])
      ∙ (λ i. each i ++ row_path t.0 _ _ _ _ _ _ new_side (new_start ∙ sym start_found) open_now i ∷ [])
    where
      each : map (row_of S (e ∷ P) n) (members S P n) ≡ rows_in S P n
      each = map_in (row_of S (e ∷ P) n) (row_of S P n) (members S P n)
          (λ u i. let j = (filter-In (on S P n) u (txns P) i).0 in let b = old u j in row_path u _ _ _ _ _ _ (side_kept S e P n u b) (start_kept S e P n u (In-txns_begun P u l j) b) (old_closing u j))

      open_now : closing S (e ∷ P) n t.0 ≡ None
      open_now = closing_here S e P n t.0 new (busy_idle S (e ∷ P) n _ t.0 (number_it P e m l) new_unfinished new_on refl)
