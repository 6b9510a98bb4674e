-- The effect of a Done or a Gone on the batches of a node on the transaction's path; other events leave the batches unchanged.
use Rattle.std.proofs.Common.{◌≡◌, ℕ, Bool, true, false, cond, not, ◌&&◌, ◌||◌, eqb, List, [], ◌∷◌, ◌++◌, length, filter, map, count_by, Option, Some, None, refl, sym, ◌∙◌, ap, subst, eqb-true}
use Rattle.std.proofs.lemmas.Bool.{both_ways, false_from_ne_true}
use Rattle.std.proofs.lemmas.List.Elements.{filter-append, filter_agree}
use Rattle.teb_rules.specs.declared.names.Txn.{Txn}
use Rattle.teb_rules.specs.declared.names.Session.{Session}
use Rattle.teb_rules.specs.declared.names.Kind.{Kind}
use Rattle.teb_rules.proofs.lemmas.names.Bools.{and_true, eqb_swap}
use Rattle.teb_rules.specs.declared.history.Event.{Event}
use Rattle.teb_rules.specs.declared.history.Event.TheVariants.{Began, Got, Put, Ready, Done, Gone, Told}
use Rattle.teb_rules.specs.history.Phases.{is_began, begun, unfinished, txns, committed, aborted}
use Rattle.teb_rules.specs.Setup.{Setup}
use Rattle.teb_rules.specs.Serializes.{In}
use Rattle.teb_rules.specs.Tree.{on, side, on_path}
use Rattle.teb_rules.specs.Batches.{start}
use Rattle.teb_rules.proofs.lemmas.laws.Serial.{filter-In}
use Rattle.batch_book.specs.Book.{Running, closed_at, is_busy, running_finished, row_finished}
use Rattle.batch_book.specs.Histories.{IsNumbered, MayCome, Passes, Finishes, closing, admitted, members, row_of, running_of, rows_in, running_in}
use Rattle.batch_book.proofs.Numbered.{begins_once, unfinished_is, unfinished_step, unfinished_kept, In-txns_begun, txns_began, txns_kept, spot_began, on_kept, side_kept, is_began_event}
use Rattle.batch_book.proofs.Intervals.{start_kept, closing_step, closing_busy}
use Rattle.batch_book.proofs.Lists.{filter_in, map_in, count_in, map-map, filter-map, filter-filter}
use Rattle.batch_book.proofs.Idle.{row_path, running_path, idle_running}

-- if the members stay and none of them begins, then start, side and the number admitted stay
module _ (S : Setup) (P : List Event) (n : ℕ) (e : Event) (l : IsNumbered P) (m : MayCome P e) where
  old : (u : ℕ) → In u (txns P) → is_began u e ≡ false
  old u i = begins_once e P u l m (In-txns_begun P u l i)

  -- a test that includes being on the node selects the same transactions before and after e
  abbrev Steady : Type 0
  Steady = (q : ℕ → Bool) → filter (λ u. on S (e ∷ P) n u && q u) (txns (e ∷ P)) ≡ filter (λ u. on S P n u && q u) (txns P)

  pub steady_kept : is_began_event e ≡ false → Steady
  steady_kept h q = ap (filter (λ u. on S (e ∷ P) n u && q u)) (txns_kept e P h) ∙ filter_in _ _ (txns P) (λ u i j. on_kept S e P n u (old u i) j && q u)

  pub members_kept : Steady → members S (e ∷ P) n ≡ members S P n
  members_kept h = filter_agree (on S (e ∷ P) n) (λ u. on S (e ∷ P) n u && true) (λ u. sym (and_true (on S (e ∷ P) n u))) (txns (e ∷ P)) ∙ h (λ u. true)
      ∙ filter_agree (λ u. on S P n u && true) (on S P n) (λ u. and_true (on S P n u)) (txns P)

  -- the transactions on side y are the same before and after e
  filter_sides : Steady → (y : ℕ) → filter (λ v. on S (e ∷ P) n v && eqb (side S (e ∷ P) n v) y) (txns (e ∷ P)) ≡ filter (λ v. on S P n v && eqb (side S P n v) y) (txns P)
  filter_sides h y =
      sym (filter-filter (on S (e ∷ P) n) (λ v. eqb (side S (e ∷ P) n v) y) (txns (e ∷ P)))
      ∙ ap (filter (λ v. eqb (side S (e ∷ P) n v) y)) (members_kept h)
      ∙ filter_in _ (λ v. eqb (side S P n v) y) (members S P n) (λ u i j. eqb (side_kept S e P n u (old u (filter-In (on S P n) u (txns P) i).0) j) y)
      ∙ filter-filter (on S P n) (λ v. eqb (side S P n v) y) (txns P)

  pub admitted_kept : Steady → (u : ℕ) → In u (txns P) → admitted S (e ∷ P) n (side S (e ∷ P) n u) u ≡ admitted S P n (side S P n u) u
  unfolding admitted
  admitted_kept h u i =
      let b = old u i in
      let q0 = λ (v : ℕ). on S P n v && eqb (side S P n v) (side S P n u) in
      (λ j. count_by (λ w. eqb (start S (e ∷ P) n w) (start_kept S e P n u (In-txns_begun P u l i) b j))
      (filter (λ w. on S (e ∷ P) n w && eqb (side S (e ∷ P) n w) (side_kept S e P n u b j)) (txns (e ∷ P))))
      ∙ ap (count_by (λ w. eqb (start S (e ∷ P) n w) (start S P n u))) (filter_sides h (side S P n u))
      ∙ count_in _ _ (filter q0 (txns P)) (λ w k j. eqb (start_kept S e P n w (In-txns_begun P w l (filter-In q0 w (txns P) k).0) (old w (filter-In q0 w (txns P) k).0) j) (start S P n u))

  pub running_kept : Steady → (us : List ℕ) → ((u : ℕ) → In u us → In u (txns P)) → map (running_of S (e ∷ P) n) us ≡ map (running_of S P n) us
  running_kept h us within = map_in (running_of S (e ∷ P) n) (running_of S P n) us
      (λ u i. let b = old u (within u i) in running_path u _ _ _ _ _ _ (side_kept S e P n u b) (start_kept S e P n u (In-txns_begun P u l (within u i)) b) (admitted_kept h u (within u i)))

  pub rows_kept : Steady → (left : List Running) → running_in S (e ∷ P) n ≡ left → rows_in S (e ∷ P) n ≡ map (row_finished left (length P)) (rows_in S P n)
  rows_kept h left q =
      ap (map (row_of S (e ∷ P) n)) (members_kept h)
      ∙ map_in (row_of S (e ∷ P) n) (λ u. row_finished left (length P) (row_of S P n u)) (members S P n)
      (λ u i. let j = (filter-In (on S P n) u (txns P) i).0 in let b = old u j in
      row_path u _ _ _ _ _ _ (side_kept S e P n u b) (start_kept S e P n u (In-txns_begun P u l j) b)
      (closing_step S e P n u (In-txns_begun P u l j) b
      ∙ (λ k. closed_at ((idle_running S (e ∷ P) n (side S P n u) ∙ ap (λ (rs : List Running). not (is_busy rs (side S P n u))) q) k) (length P) (closing S P n u))))
      ∙ sym (map-map (row_of S P n) (row_finished left (length P)) (members S P n))

  -- t finishes
  pub running_done : (t : ℕ) → is_began_event e ≡ false → ((u : ℕ) → unfinished (e ∷ P) u ≡ (unfinished P u && not (eqb u t))) → running_in S (e ∷ P) n ≡ running_finished (running_in S P n) t
  running_done t h f =
      let g = steady_kept h in
      ap (λ (us : List ℕ). map (running_of S (e ∷ P) n) (filter (unfinished (e ∷ P)) us)) (members_kept g)
      ∙ ap (map (running_of S (e ∷ P) n)) (filter_agree (unfinished (e ∷ P)) (λ u. unfinished P u && not (eqb u t)) f (members S P n)
      ∙ sym (filter-filter (unfinished P) (λ u. not (eqb u t)) (members S P n)))
      ∙ running_kept g (filter (λ u. not (eqb u t)) (filter (unfinished P) (members S P n)))
      (λ u i. (filter-In (on S P n) u (txns P) (filter-In (unfinished P) u (members S P n) (filter-In (λ w. not (eqb w t)) u (filter (unfinished P) (members S P n)) i).0).0).0)
      ∙ sym (filter-map (running_of S P n) (λ r. not (eqb r.txn t)) (filter (unfinished P) (members S P n)))

  -- an event that does not concern the node
  pub running_passed : Steady → ((u : ℕ) → In u (members S P n) → unfinished (e ∷ P) u ≡ unfinished P u) → running_in S (e ∷ P) n ≡ running_in S P n
  running_passed g f =
      ap (λ (us : List ℕ). map (running_of S (e ∷ P) n) (filter (unfinished (e ∷ P)) us)) (members_kept g)
      ∙ ap (map (running_of S (e ∷ P) n)) (filter_in (unfinished (e ∷ P)) (unfinished P) (members S P n) f)
      ∙ running_kept g (filter (unfinished P) (members S P n)) (λ u i. (filter-In (on S P n) u (txns P) (filter-In (unfinished P) u (members S P n) i).0).0)

  pub rows_passed : Steady → running_in S (e ∷ P) n ≡ running_in S P n → rows_in S (e ∷ P) n ≡ rows_in S P n
  rows_passed g q = rows_kept g (running_in S P n) q ∙ map-map (row_of S P n) (row_finished (running_in S P n) (length P)) (members S P n)
      ∙ map_in _ (row_of S P n) (members S P n) (λ u i. row_path u _ _ _ _ _ _ refl refl (still u (filter-In (on S P n) u (txns P) i).0 (closing S P n u) refl))
    where
      still : (u : ℕ) → In u (txns P) → (c : Option ℕ) → closing S P n u ≡ c → closed_at (not (is_busy (running_in S P n) (side S P n u))) (length P) c ≡ c
      still u i (Some c) p = refl
      still u i None p = ap (λ (b : Bool). cond b (Some (length P)) None) (sym (idle_running S P n (side S P n u)) ∙ closing_busy S P n u (In-txns_begun P u l i) p)

-- only the transaction that finishes becomes finished
or_not : (b c d g : Bool) → (b && not (d || c) && not g) ≡ (b && not c && not g && not d)
or_not true true true true = refl
or_not true true true false = refl
or_not true true false true = refl
or_not true true false false = refl
or_not true false true true = refl
or_not true false true false = refl
or_not true false false true = refl
or_not true false false false = refl
or_not false c d g = refl

or_not_last : (b c d g : Bool) → (b && not c && not (d || g)) ≡ (b && not c && not g && not d)
or_not_last true true true true = refl
or_not_last true true true false = refl
or_not_last true true false true = refl
or_not_last true true false false = refl
or_not_last true false true true = refl
or_not_last true false true false = refl
or_not_last true false false true = refl
or_not_last true false false false = refl
or_not_last false c d g = refl

pub finished : (t : ℕ) (e : Event) (P : List Event) → Finishes t e → (u : ℕ) → unfinished (e ∷ P) u ≡ (unfinished P u && not (eqb u t))
finished t (Done v) P f u =
    unfinished_step (Done v) P u ∙ or_not (begun P u) (committed P u) (eqb v.0 u) (aborted P u)
    ∙ (λ i. sym (unfinished_is P u) i && not ((ap (λ (w : ℕ). eqb w u) f ∙ eqb_swap t u) i))
finished t (Gone v c) P f u =
    unfinished_step (Gone v c) P u ∙ or_not_last (begun P u) (committed P u) (eqb v.0 u) (aborted P u)
    ∙ (λ i. sym (unfinished_is P u) i && not ((ap (λ (w : ℕ). eqb w u) f ∙ eqb_swap t u) i))
finished t _ P f u = absurd f

pub finish_no_begin : (t : ℕ) (e : Event) → Finishes t e → is_began_event e ≡ false
finish_no_begin t (Began u s k i) f = absurd f
finish_no_begin t _ f = refl

-- a transaction that is not on the node differs from each that is
other_unfinished : (S : Setup) (P : List Event) (n t u : ℕ) → on S P n t ≡ false → on S P n u ≡ true → eqb u t ≡ false
other_unfinished S P n t u f o = false_from_ne_true _ (λ q. both_ways _ f (subst (λ (w : ℕ). on S P n w ≡ true) (eqb-true u t q) o))

on_began : (S : Setup) (P : List Event) (n : ℕ) (t : Txn) (s : Session) (k : Kind) (i : ℕ) → on S (Began t s k i ∷ P) n t.0 ≡ on_path S.tree n (record { kind = k; instance = i })
unfolding on
on_began S P n t s k i = ap (on_path S.tree n) (spot_began t s k i P)

pub passed : (S : Setup) (P : List Event) (n : ℕ) (e : Event) → IsNumbered P → MayCome P e → Passes S P n e → (running_in S (e ∷ P) n ≡ running_in S P n) × (rows_in S (e ∷ P) n ≡ rows_in S P n)
passed S P n (Began t s k i) l m h = let r = running_passed S P n (Began t s k i) l m g f in (r, rows_passed S P n (Began t s k i) l m g r)
  where
    off : on S (Began t s k i ∷ P) n t.0 ≡ false
    off = on_began S P n t s k i ∙ h

    g : Steady S P n (Began t s k i) l m
    g q =
        ap (filter (λ u. on S (Began t s k i ∷ P) n u && q u)) (txns_began t s k i P m)
        ∙ filter-append (λ u. on S (Began t s k i ∷ P) n u && q u) (txns P) (t.0 ∷ [])
        ∙ (λ j. filter_in _ (λ u. on S P n u && q u) (txns P) (λ u w z. on_kept S (Began t s k i) P n u (old S P n (Began t s k i) l m u w) z && q u) j ++ cond (off j && q t.0) (t.0 ∷ []) [])
        ∙ append_none (filter (λ u. on S P n u && q u) (txns P))
      where
        append_none : (us : List ℕ) → us ++ [] ≡ us
        append_none [] = refl
        append_none (v ∷ vs) = ap (λ (ws : List ℕ). v ∷ ws) (append_none vs)

    f : (u : ℕ) → In u (members S P n) → unfinished (Began t s k i ∷ P) u ≡ unfinished P u
    f u w = unfinished_kept (Began t s k i) P u (old S P n (Began t s k i) l m u (filter-In (on S P n) u (txns P) w).0) refl refl
passed S P n (Done t) l m h =
    let g = steady_kept S P n (Done t) l m refl in
    let r = running_passed S P n (Done t) l m g
    (λ u w. finished t.0 (Done t) P refl u ∙ ap (λ (b : Bool). unfinished P u && not b) (other_unfinished S P n t.0 u h (filter-In (on S P n) u (txns P) w).1) ∙ and_true (unfinished P u)) in
    (r, rows_passed S P n (Done t) l m g r)
passed S P n (Gone t c) l m h =
    let g = steady_kept S P n (Gone t c) l m refl in
    let r = running_passed S P n (Gone t c) l m g
    (λ u w. finished t.0 (Gone t c) P refl u ∙ ap (λ (b : Bool). unfinished P u && not b) (other_unfinished S P n t.0 u h (filter-In (on S P n) u (txns P) w).1) ∙ and_true (unfinished P u)) in
    (r, rows_passed S P n (Gone t c) l m g r)
passed S P n (Got t x w v) l m h =
    let g = steady_kept S P n (Got t x w v) l m refl in
    let r = running_passed S P n (Got t x w v) l m g (λ u i. unfinished_kept (Got t x w v) P u refl refl refl) in
    (r, rows_passed S P n (Got t x w v) l m g r)
passed S P n (Put t x v) l m h =
    let g = steady_kept S P n (Put t x v) l m refl in
    let r = running_passed S P n (Put t x v) l m g (λ u i. unfinished_kept (Put t x v) P u refl refl refl) in
    (r, rows_passed S P n (Put t x v) l m g r)
passed S P n (Ready t) l m h =
    let g = steady_kept S P n (Ready t) l m refl in
    let r = running_passed S P n (Ready t) l m g (λ u i. unfinished_kept (Ready t) P u refl refl refl) in
    (r, rows_passed S P n (Ready t) l m g r)
passed S P n (Told t) l m h =
    let g = steady_kept S P n (Told t) l m refl in
    let r = running_passed S P n (Told t) l m g (λ u i. unfinished_kept (Told t) P u refl refl refl) in
    (r, rows_passed S P n (Told t) l m g r)
