-- The lists of predecessors after one more event.
use Rattle.std.proofs.Common.{◌≡◌, ◌⊎◌, ℕ, ℤ, suc, ◌+◌, ◌<◌, ◌≤◌, Bool, true, false, cond, not, ◌||◌, ◌&&◌, eqb, List, [], ◌∷◌}
use Rattle.std.proofs.Common.{◌++◌, map, filter, length, length-append, drop, Option, refl, sym, ◌∙◌, ap, subst, arith, inl, inr}
use Rattle.std.proofs.lemmas.Bool.{cases_Bool, both_ways, eqb-true, eq-eqb, ne_eqb}
use Rattle.teb_rules.specs.declared.names.Txn.{Txn}
use Rattle.teb_rules.specs.declared.names.Session.{Session}
use Rattle.teb_rules.specs.declared.names.Kind.{Kind}
use Rattle.teb_rules.specs.declared.names.Cause.{Cause}
use Rattle.teb_rules.specs.declared.names.Cell.{Cell}
use Rattle.teb_rules.specs.names.Cells.{same_cell}
use Rattle.teb_rules.proofs.lemmas.names.Bools.{and_true, and_false, or_true, or_swap}
use Rattle.teb_rules.specs.declared.history.Event.{Event}
use Rattle.teb_rules.specs.declared.history.Event.TheVariants.{Began, Got, Put, Ready, Done, Gone, Told}
use Rattle.teb_rules.specs.history.Phases.{is_began, is_done, is_gone, done_at, gone_at, begun, committed, aborted, unfinished, begun_count, numbers, txns, spot_of}
use Rattle.teb_rules.specs.history.Accesses.{wrote, got}
use Rattle.teb_rules.specs.history.Ascending.{IsAscendingBy}
use Rattle.teb_rules.specs.history.Live.{number_of}
use Rattle.teb_rules.proofs.lemmas.history.Any.{came_any}
use Rattle.teb_rules.proofs.lemmas.history.Newest.{begun-cons, committed-cons, aborted-cons, wrote-cons, got-cons, unfinished-cons}
use Rattle.teb_rules.specs.Setup.{Setup}
use Rattle.teb_rules.specs.Tree.{on, side, on_path, side_at, meets}
use Rattle.teb_rules.specs.Controls.{earlier, blocks}
use Rattle.teb_rules.specs.Serializes.{In}
use Rattle.teb_rules.proofs.lemmas.laws.Locks.{In-numbers}
use Rattle.teb_rules.proofs.lemmas.laws.Serial.{numbers-In}
use Rattle.teb_rules.proofs.lemmas.laws.Holding.{unfinished_same}
use Rattle.teb_rules.proofs.lemmas.laws.Nodes.{meets_parts}
use Rattle.teb_rules.proofs.lemmas.laws.Cascades.{no_members}
use Rattle.phase_api.specs.FactsView.{IsOrderly}
use Rattle.phase_api.specs.Calls.{MayNote}
use Rattle.hold_book.specs.Holders.{holds_in}
use Rattle.access_conflicts.proofs.Orderly.{unfinished_begun, new_accesses_none}
use Rattle.access_conflicts.specs.Blockers.{in_the_way}
use Rattle.dependency_book.specs.Dependencies.{has}
use Rattle.dependency_book.proofs.MultimapEdits.{one_txn}
use Rattle.runtime_pipeline.specs.Predecessors.{Kept, numbered, is_ahead, before_in, unfinished_in, list_of, joined, without, EndsFollow, PredecessorsOf}
use Rattle.runtime_pipeline.proofs.Noting.{wrote_before, got_before, no_put, no_got, other}
use Rattle.runtime_pipeline.proofs.ListEdits.{without_less}
use Rattle.runtime_pipeline.proofs.Aheads.{before_ascends, few_holders, joined_all, filter_without}

off : (a b : Bool) → (a || b) ≡ false → (a ≡ false) × (b ≡ false)
off false b h = (refl, h)
off true b h = absurd (cc)

not_now : (o b : Bool) → (o ≡ true → b ≡ true) → b ≡ false → o ≡ false
not_now true b f h = absurd (both_ways _ h (f refl))
not_now false b f h = refl

ends_next : (e : Event) (P : List Event) → EndsFollow P → ((u : ℕ) → is_done u e ≡ true → begun P u ≡ true) → ((u : ℕ) → is_gone u e ≡ true → begun P u ≡ true) → EndsFollow (e ∷ P)
ends_next e P h d g u b =
    let was : begun P u ≡ false = (off (is_began u e) (begun P u) (sym (begun-cons e P u) ∙ b)).1 in
    let w = h u was in (
      committed-cons e P u ∙ ap (λ (o : Bool). o || committed P u) (not_now (is_done u e) (begun P u) (d u) was) ∙ w.0,
      aborted-cons e P u ∙ ap (λ (o : Bool). o || aborted P u) (not_now (is_gone u e) (begun P u) (g u) was) ∙ w.1,
    )

none_ends : (e : Event) (P : List Event) → ((u : ℕ) → is_done u e ≡ false) → ((u : ℕ) → is_gone u e ≡ false) → EndsFollow P → EndsFollow (e ∷ P)
none_ends e P d g h = ends_next e P h (λ u t. absurd (both_ways _ (d u) t)) (λ u t. absurd (both_ways _ (g u) t))

its_begun : (P : List Event) (t u : ℕ) → unfinished P t ≡ true → eqb t u ≡ true → begun P u ≡ true
its_begun P t u h e = subst (λ (z : ℕ). begun P z ≡ true) (eqb-true t u e) (unfinished_begun P t h)

abbrev nobody : List Txn
nobody = []

-- the empty history
pub noted_none : (S : Setup) (n : ℕ) (k : Kept) → ((t : Txn) → list_of k t ≡ []) → PredecessorsOf k S [] n
unfolding txns begun_count numbers committed aborted done_at gone_at
noted_none S n k l = record {
  ends = λ v b. (came_any (is_done v) [], came_any (is_gone v) []);
  counted = omega arith;
  ahead = λ t. l t ∙ none (unfinished [] t.0);
}
  where
    none : (b : Bool) → nobody ≡ cond b nobody nobody
    none true = refl
    none false = refl

-- an event that changes neither the number of begun transactions, nor which are unfinished, nor which meet
module _ (S : Setup) (P : List Event) (n : ℕ) (e : Event) (count : begun_count (e ∷ P) ≡ begun_count P) (open_ : (u : ℕ) → unfinished (e ∷ P) u ≡ unfinished P u)
    (meet : (t u : ℕ) → meets S (e ∷ P) n t u ≡ meets S P n t u) where
  same_unfinished : unfinished_in (e ∷ P) ≡ unfinished_in P
  unfolding txns
  same_unfinished = λ j. map numbered (filter (λ u. open_ u j) (numbers (count j)))

  same_count : {m : ℕ} → length (unfinished_in P) ≤ m → length (unfinished_in (e ∷ P)) ≤ m
  same_count {m} l = subst (λ (us : List Txn). length us ≤ m) (sym same_unfinished) l

  same_before : (t : ℕ) → ((u : ℕ) → earlier (e ∷ P) u t ≡ earlier P u t) → before_in S (e ∷ P) n t ≡ before_in S P n t
  unfolding txns
  same_before t f = λ j. map numbered (filter (λ u. open_ u j && meet t u j && f u j) (numbers (count j)))

  kept : (k k' : Kept) (t : Txn) → list_of k' t ≡ list_of k t → PredecessorsOf k S P n → ((u : ℕ) → earlier (e ∷ P) u t.0 ≡ earlier P u t.0)
      → list_of k' t ≡ cond (unfinished (e ∷ P) t.0) (before_in S (e ∷ P) n t.0) []
  kept k k' t l was f = l ∙ was.ahead t ∙ sym (λ j. cond (open_ t.0 j) (same_before t.0 f j) [])

  noted_inert : (k : Kept) → EndsFollow (e ∷ P) → ((u t : ℕ) → earlier (e ∷ P) u t ≡ earlier P u t) → PredecessorsOf k S P n → PredecessorsOf k S (e ∷ P) n
  noted_inert k ends f was = record { ends = ends; counted = same_count was.counted; ahead = λ t. kept k k t refl was (λ u. f u t.0) }

  -- an access of x by t
  module _ (t : Txn) (x : Cell) (write : Bool) (others : (u v : ℕ) → eqb t.0 v ≡ false → earlier (e ∷ P) u v ≡ earlier P u v)
      (mine : (u : ℕ) → (is_ahead S P n t.0 u || blocks S (e ∷ P) n t.0 x write u) ≡ is_ahead S (e ∷ P) n t.0 u) where
    joined_before : joined (in_the_way S (e ∷ P) n t.0 write) (holds_in S (e ∷ P) n x) (before_in S P n t.0) ≡ before_in S (e ∷ P) n t.0
    unfolding txns
    joined_before =
        (λ j. joined (in_the_way S (e ∷ P) n t.0 write) (holds_in S (e ∷ P) n x) (map numbered (filter (is_ahead S P n t.0) (numbers (sym count j)))))
        ∙ joined_all S (e ∷ P) n t.0 x write (is_ahead S P n t.0)
        ∙ (λ j. map numbered (filter (λ u. mine u j) (numbers (begun_count (e ∷ P)))))

    noted_access : (k k' : Kept) → EndsFollow (e ∷ P) → unfinished P t.0 ≡ true → k'.unfinished ≡ k.unfinished
        → ((v : Txn) → list_of k' v ≡ cond (eqb t.0 v.0) (joined (in_the_way S (e ∷ P) n t.0 write) (holds_in S (e ∷ P) n x) (list_of k v)) (list_of k v))
        → PredecessorsOf k S P n → PredecessorsOf k' S (e ∷ P) n
    noted_access k k' ends u same lists was = record {
      ends = ends;
      counted = subst (λ (m : ℕ). length (unfinished_in (e ∷ P)) ≤ m) (sym same) (same_count was.counted);
      ahead = λ v. go v (eqb t.0 v.0) refl;
    }
      where
        at_t : list_of k' t ≡ cond (unfinished (e ∷ P) t.0) (before_in S (e ∷ P) n t.0) []
        at_t =
            lists t ∙ ap (λ (b : Bool). cond b (joined (in_the_way S (e ∷ P) n t.0 write) (holds_in S (e ∷ P) n x) (list_of k t)) (list_of k t)) (eq-eqb t.0 t.0 refl)
            ∙ ap (joined (in_the_way S (e ∷ P) n t.0 write) (holds_in S (e ∷ P) n x)) (was.ahead t ∙ ap (λ (b : Bool). cond b (before_in S P n t.0) []) u)
            ∙ joined_before ∙ sym (ap (λ (b : Bool). cond b (before_in S (e ∷ P) n t.0) []) (open_ t.0 ∙ u))

        go : (v : Txn) (b : Bool) → eqb t.0 v.0 ≡ b → list_of k' v ≡ cond (unfinished (e ∷ P) v.0) (before_in S (e ∷ P) n v.0) []
        go v true h = subst (λ (z : Txn). list_of k' z ≡ cond (unfinished (e ∷ P) z.0) (before_in S (e ∷ P) n z.0) []) (one_txn t v h) at_t
        go v false h = kept k k' v (lists v ∙ ap (λ (b : Bool). cond b (joined (in_the_way S (e ∷ P) n t.0 write) (holds_in S (e ∷ P) n x) (list_of k v)) (list_of k v)) h) was (λ u. others u v.0 h)

-- Ready and Told
pub noted_ready : (S : Setup) (P : List Event) (n : ℕ) (t : Txn) (k : Kept) → PredecessorsOf k S P n → PredecessorsOf k S (Ready t ∷ P) n
unfolding begun_count meets on side spot_of earlier
noted_ready S P n t k was = noted_inert S P n (Ready t) refl (λ u. unfinished_same (Ready t) P u refl refl refl) (λ v u. refl) k (none_ends (Ready t) P (λ u. refl) (λ u. refl) was.ends)
    (λ u v. refl) was

pub noted_told : (S : Setup) (P : List Event) (n : ℕ) (t : Txn) (k : Kept) → PredecessorsOf k S P n → PredecessorsOf k S (Told t ∷ P) n
unfolding begun_count meets on side spot_of earlier
noted_told S P n t k was = noted_inert S P n (Told t) refl (λ u. unfinished_same (Told t) P u refl refl refl) (λ v u. refl) k (none_ends (Told t) P (λ u. refl) (λ u. refl) was.ends) (λ u v. refl) was

-- Got and Put
got_ahead : (a m ea w : Bool) → ((a && m && ea) || (a && m && (w || false))) ≡ (a && m && (w || ea))
got_ahead false m ea w = refl
got_ahead true false ea w = refl
got_ahead true true true true = refl
got_ahead true true true false = refl
got_ahead true true false true = refl
got_ahead true true false false = refl

put_ahead : (a m ea c w g : Bool) → (m ≡ true → c ≡ false) → ((a && m && ea) || (a && m && ((c || w) || g))) ≡ (a && m && ((w || g) || ea))
put_ahead false m ea c w g h = refl
put_ahead true false ea c w g h = refl
put_ahead true true ea true w g h = absurd (let z = h refl in cc)
put_ahead true true ea false w g h = or_swap ea (w || g)

module _ (S : Setup) (P : List Event) (n : ℕ) (t : Txn) (x : Cell) where
  apart : (H : List Event) (u : ℕ) → meets S H n t.0 u ≡ true → (eqb t.0 u && same_cell x x) ≡ false
  apart H u m = ap (λ (b : Bool). b && same_cell x x) (ne_eqb t.0 u (λ e. (meets_parts S H n t.0 u m).2 (ap (side S H n) e)))

  pub noted_got : (w : Txn) (v : Option ℤ) (k k' : Kept) → unfinished P t.0 ≡ true → k'.unfinished ≡ k.unfinished
      → ((u : Txn) → list_of k' u ≡ cond (eqb t.0 u.0) (joined (in_the_way S (Got t x w v ∷ P) n t.0 false) (holds_in S (Got t x w v ∷ P) n x) (list_of k u)) (list_of k u))
      → PredecessorsOf k S P n → PredecessorsOf k' S (Got t x w v ∷ P) n
  unfolding begun_count meets on side spot_of earlier blocks
  noted_got w v k k' open_ same lists was =
      let e : Event = Got t x w v in
      let unended = λ (u : ℕ). unfinished_same e P u refl refl refl in
      let puts = λ (u : ℕ). wrote-cons e P u x in
      noted_access S P n e refl unended (λ a b. refl) t x false
      (λ u a h. ap (λ (b : Bool). (b && wrote P u x) || earlier P u a) h)
      (λ u. (λ j. (unfinished P u && meets S P n t.0 u && earlier P u t.0) || (unended u j && meets S P n t.0 u && (puts u j || false)))
      ∙ got_ahead (unfinished P u) (meets S P n t.0 u) (earlier P u t.0) (wrote P u x)
      ∙ sym (λ j. unended u j && meets S P n t.0 u && ((eq-eqb t.0 t.0 refl j && wrote P u x) || earlier P u t.0)))
      k k' (none_ends e P (λ u. refl) (λ u. refl) was.ends) open_ same lists was

  pub noted_put : (v : Option ℤ) (k k' : Kept) → unfinished P t.0 ≡ true → k'.unfinished ≡ k.unfinished
      → ((u : Txn) → list_of k' u ≡ cond (eqb t.0 u.0) (joined (in_the_way S (Put t x v ∷ P) n t.0 true) (holds_in S (Put t x v ∷ P) n x) (list_of k u)) (list_of k u))
      → PredecessorsOf k S P n → PredecessorsOf k' S (Put t x v ∷ P) n
  unfolding begun_count meets on side spot_of earlier blocks
  noted_put v k k' open_ same lists was =
      let e : Event = Put t x v in
      let unended = λ (u : ℕ). unfinished_same e P u refl refl refl in
      let puts = λ (u : ℕ). wrote-cons e P u x in
      let gets = λ (u : ℕ). got-cons e P u x in
      noted_access S P n e refl unended (λ a b. refl) t x true
      (λ u a h. ap (λ (b : Bool). (b && (wrote P u x || got P u x)) || earlier P u a) h)
      (λ u. (λ j. (unfinished P u && meets S P n t.0 u && earlier P u t.0) || (unended u j && meets S P n t.0 u && (puts u j || gets u j)))
      ∙ put_ahead (unfinished P u) (meets S P n t.0 u) (earlier P u t.0) (eqb t.0 u && same_cell x x) (wrote P u x) (got P u x) (apart P u)
      ∙ sym (λ j. unended u j && meets S P n t.0 u && ((eq-eqb t.0 t.0 refl j && (wrote P u x || got P u x)) || earlier P u t.0)))
      k k' (none_ends e P (λ u. refl) (λ u. refl) was.ends) open_ same lists was

-- an unfinished transaction is in the list of the unfinished ones
has_made : (v : Txn) (p : ℕ → Bool) (us : List ℕ) → p v.0 ≡ true → In v.0 us → has v (map numbered (filter p us)) ≡ true
has_made v p [] h i = absurd i
has_made v p (u ∷ us) h i = elim i [
  | inl q ↦ ap (λ (b : Bool). has v (map numbered (cond b (u ∷ filter p us) (filter p us)))) (ap p q ∙ h) ∙ ap (λ (b : Bool). b || has v (map numbered (filter p us))) (eq-eqb u v.0 q)
  | inr j ↦ go (p u) (has_made v p us h j)
]
  where
    go : (b : Bool) → has v (map numbered (filter p us)) ≡ true → has v (map numbered (cond b (u ∷ filter p us) (filter p us))) ≡ true
    go true ih = ap (λ (b : Bool). eqb u v.0 || b) ih ∙ or_true (eqb u v.0)
    go false ih = ih

unfinished_has : (S : Setup) (P : List Event) (t : Txn) → IsOrderly S P → unfinished P t.0 ≡ true → has t (unfinished_in P) ≡ true
unfolding txns
unfinished_has S P t o h = let m = o.numbered t.0 (unfinished_begun P t.0 h) in has_made t (unfinished P) (numbers (begun_count P)) h (In-numbers (begun_count P) t.0 m.0 m.1)

-- t ends
module _ (S : Setup) (P : List Event) (n : ℕ) (e : Event) (t : Txn) (count : begun_count (e ∷ P) ≡ begun_count P) (ended : (u : ℕ) → unfinished (e ∷ P) u ≡ (unfinished P u && not (eqb u t.0)))
    (meet : (v u : ℕ) → meets S (e ∷ P) n v u ≡ meets S P n v u) (early : (u v : ℕ) → earlier (e ∷ P) u v ≡ earlier P u v) where
  left_unfinished : unfinished_in (e ∷ P) ≡ without t.0 (unfinished_in P)
  unfolding txns
  left_unfinished = (λ j. map numbered (filter (unfinished (e ∷ P)) (numbers (count j)))) ∙ filter_without t.0 (unfinished P) (unfinished (e ∷ P)) ended (numbers (begun_count P))

  shuffled : (a b m ea : Bool) → (a && b && m && ea) ≡ ((a && m && ea) && b)
  shuffled false b m ea = refl
  shuffled true true true true = refl
  shuffled true true true false = refl
  shuffled true true false ea = refl
  shuffled true false false ea = refl
  shuffled true false true true = refl
  shuffled true false true false = refl

  left_before : (v : ℕ) → before_in S (e ∷ P) n v ≡ without t.0 (before_in S P n v)
  unfolding txns
  left_before v =
      (λ j. map numbered (filter (is_ahead S (e ∷ P) n v) (numbers (count j))))
      ∙ filter_without t.0 (is_ahead S P n v) (is_ahead S (e ∷ P) n v)
      (λ u. (λ j. ended u j && meet v u j && early u v j) ∙ shuffled (unfinished P u) (not (eqb u t.0)) (meets S P n v u) (earlier P u v)) (numbers (begun_count P))

  noted_end : (k k' : Kept) → IsOrderly S P → EndsFollow (e ∷ P) → unfinished P t.0 ≡ true → k.unfinished ≡ k'.unfinished + 1
      → ((v : Txn) → list_of k' v ≡ cond (eqb t.0 v.0) [] (without t.0 (list_of k v)))
      → PredecessorsOf k S P n → PredecessorsOf k' S (e ∷ P) n
  noted_end k k' o ends open_ fewer lists was = record { ends = ends; counted = now; ahead = λ v. go v (eqb t.0 v.0) refl }
    where
      now : length (unfinished_in (e ∷ P)) ≤ k'.unfinished
      now =
          let same = ap (λ (us : List Txn). length us) left_unfinished in
          let less = without_less t (unfinished_in P) (unfinished_has S P t o open_) in
          omega (arith, was.counted, fewer)

      ended_t : unfinished (e ∷ P) t.0 ≡ false
      ended_t = ended t.0 ∙ ap (λ (b : Bool). unfinished P t.0 && not b) (eq-eqb t.0 t.0 refl) ∙ and_false (unfinished P t.0)

      at_t : (v : Txn) → eqb t.0 v.0 ≡ true → list_of k' v ≡ cond (unfinished (e ∷ P) v.0) (before_in S (e ∷ P) n v.0) []
      at_t v h =
          lists v ∙ ap (λ (b : Bool). cond b [] (without t.0 (list_of k v))) h
          ∙ sym (ap (λ (b : Bool). cond b (before_in S (e ∷ P) n v.0) []) (ap (unfinished (e ∷ P)) (sym (eqb-true t.0 v.0 h)) ∙ ended_t))

      off_t : (v : Txn) → eqb t.0 v.0 ≡ false → unfinished (e ∷ P) v.0 ≡ unfinished P v.0
      off_t v h = ended v.0 ∙ ap (λ (b : Bool). unfinished P v.0 && not b) (ne_eqb v.0 t.0 (λ q. both_ways _ h (eq-eqb t.0 v.0 (sym q)))) ∙ and_true (unfinished P v.0)

      other_than_t : (v : Txn) → eqb t.0 v.0 ≡ false → (b : Bool) → unfinished P v.0 ≡ b → without t.0 (list_of k v) ≡ cond (unfinished (e ∷ P) v.0) (before_in S (e ∷ P) n v.0) []
      other_than_t v h true g =
          ap (without t.0) (was.ahead v ∙ ap (λ (b : Bool). cond b (before_in S P n v.0) []) g)
          ∙ sym (left_before v.0) ∙ sym (ap (λ (b : Bool). cond b (before_in S (e ∷ P) n v.0) []) (off_t v h ∙ g))
      other_than_t v h false g =
          ap (without t.0) (was.ahead v ∙ ap (λ (b : Bool). cond b (before_in S P n v.0) []) g)
          ∙ sym (ap (λ (b : Bool). cond b (before_in S (e ∷ P) n v.0) []) (off_t v h ∙ g))

      go : (v : Txn) (b : Bool) → eqb t.0 v.0 ≡ b → list_of k' v ≡ cond (unfinished (e ∷ P) v.0) (before_in S (e ∷ P) n v.0) []
      go v true h = at_t v h
      go v false h = lists v ∙ ap (λ (b : Bool). cond b [] (without t.0 (list_of k v))) h ∙ other_than_t v h (unfinished P v.0) refl

ended_by : (b : Bool) (c d : Bool) → (b && not (true || c) && d) ≡ false
ended_by true c d = refl
ended_by false c d = refl

aborted_by : (b d : Bool) (c : Bool) → (b && d && not (true || c)) ≡ false
aborted_by true true c = refl
aborted_by true false c = refl
aborted_by false d c = refl

module _ (S : Setup) (P : List Event) (n : ℕ) (t : Txn) (o : IsOrderly S P) (open_ : unfinished P t.0 ≡ true) (k k' : Kept) (fewer : k.unfinished ≡ k'.unfinished + 1)
    (lists : (v : Txn) → list_of k' v ≡ cond (eqb t.0 v.0) [] (without t.0 (list_of k v))) (was : PredecessorsOf k S P n) where
  pub noted_done : PredecessorsOf k' S (Done t ∷ P) n
  unfolding begun_count meets on side spot_of earlier
  noted_done = noted_end S P n (Done t) t refl (λ u. ended u (eqb t.0 u) refl) (λ v u. refl) (λ u v. refl) k k' o (ends_next (Done t) P was.ends (λ u. its_begun P t.0 u open_) (λ u h. absurd (cc)))
      open_ fewer lists was
    where
      ended : (u : ℕ) (b : Bool) → eqb t.0 u ≡ b → unfinished (Done t ∷ P) u ≡ (unfinished P u && not (eqb u t.0))
      ended u true h =
          unfinished-cons (Done t) P u ∙ ap (λ (b : Bool). begun P u && not (b || committed P u) && not (aborted P u)) h ∙ ended_by (begun P u) (committed P u) (not (aborted P u))
          ∙ sym (ap (λ (b : Bool). unfinished P u && not b) (eq-eqb u t.0 (sym (eqb-true t.0 u h))) ∙ and_false (unfinished P u))
      ended u false h = unfinished_same (Done t) P u refl h refl
          ∙ sym (ap (λ (b : Bool). unfinished P u && not b) (ne_eqb u t.0 (λ q. both_ways _ h (eq-eqb t.0 u (sym q)))) ∙ and_true (unfinished P u))

  pub noted_gone : (c : Cause) → PredecessorsOf k' S (Gone t c ∷ P) n
  unfolding begun_count meets on side spot_of earlier
  noted_gone c = noted_end S P n (Gone t c) t refl (λ u. ended u (eqb t.0 u) refl) (λ v u. refl) (λ u v. refl) k k' o
      (ends_next (Gone t c) P was.ends (λ u h. absurd (cc)) (λ u. its_begun P t.0 u open_)) open_ fewer lists was
    where
      ended : (u : ℕ) (b : Bool) → eqb t.0 u ≡ b → unfinished (Gone t c ∷ P) u ≡ (unfinished P u && not (eqb u t.0))
      ended u true h =
          unfinished-cons (Gone t c) P u ∙ ap (λ (b : Bool). begun P u && not (committed P u) && not (b || aborted P u)) h ∙ aborted_by (begun P u) (not (committed P u)) (aborted P u)
          ∙ sym (ap (λ (b : Bool). unfinished P u && not b) (eq-eqb u t.0 (sym (eqb-true t.0 u h))) ∙ and_false (unfinished P u))
      ended u false h = unfinished_same (Gone t c) P u refl refl h
          ∙ sym (ap (λ (b : Bool). unfinished P u && not b) (ne_eqb u t.0 (λ q. both_ways _ h (eq-eqb t.0 u (sym q)))) ∙ and_true (unfinished P u))

-- a transaction without accesses is not earlier than any other, and none is earlier than it
earlier_none : (P : List Event) (t u : ℕ) → ((x : Cell) → wrote P t x ≡ false) → ((x : Cell) → got P t x ≡ false) → earlier P t u ≡ false
unfolding earlier
earlier_none [] t u w g = refl
earlier_none (Got s x v z ∷ P) t u w g =
    let pw = wrote_before (Got s x v z) P t w in
    ap (λ (b : Bool). (eqb s.0 u && b) || earlier P t u) (pw x) ∙ ap (λ (b : Bool). b || earlier P t u) (and_false (eqb s.0 u)) ∙ earlier_none P t u pw (got_before (Got s x v z) P t g)
earlier_none (Put s x v ∷ P) t u w g =
    let pw = wrote_before (Put s x v) P t w in
    let pg = got_before (Put s x v) P t g in
    (λ j. (eqb s.0 u && (pw x j || pg x j)) || earlier P t u) ∙ ap (λ (b : Bool). b || earlier P t u) (and_false (eqb s.0 u)) ∙ earlier_none P t u pw pg
earlier_none (Began s a k i ∷ P) t u w g = earlier_none P t u (wrote_before (Began s a k i) P t w) (got_before (Began s a k i) P t g)
earlier_none (Ready s ∷ P) t u w g = earlier_none P t u (wrote_before (Ready s) P t w) (got_before (Ready s) P t g)
earlier_none (Done s ∷ P) t u w g = earlier_none P t u (wrote_before (Done s) P t w) (got_before (Done s) P t g)
earlier_none (Gone s c ∷ P) t u w g = earlier_none P t u (wrote_before (Gone s c) P t w) (got_before (Gone s c) P t g)
earlier_none (Told s ∷ P) t u w g = earlier_none P t u (wrote_before (Told s) P t w) (got_before (Told s) P t g)

none_earlier : (P : List Event) (u t : ℕ) → ((x : Cell) → wrote P t x ≡ false) → ((x : Cell) → got P t x ≡ false) → earlier P u t ≡ false
unfolding earlier
none_earlier [] u t w g = refl
none_earlier (Got s x v z ∷ P) u t w g =
    ap (λ (b : Bool). (b && wrote P u x) || earlier P u t) (other (eqb s.0 t) x (no_got (Got s x v z) P t x (g x))) ∙ none_earlier P u t (wrote_before (Got s x v z) P t w)
    (got_before (Got s x v z) P t g)
none_earlier (Put s x v ∷ P) u t w g =
    ap (λ (b : Bool). (b && (wrote P u x || got P u x)) || earlier P u t) (other (eqb s.0 t) x (no_put (Put s x v) P t x (w x))) ∙ none_earlier P u t (wrote_before (Put s x v) P t w)
    (got_before (Put s x v) P t g)
none_earlier (Began s a k i ∷ P) u t w g = none_earlier P u t (wrote_before (Began s a k i) P t w) (got_before (Began s a k i) P t g)
none_earlier (Ready s ∷ P) u t w g = none_earlier P u t (wrote_before (Ready s) P t w) (got_before (Ready s) P t g)
none_earlier (Done s ∷ P) u t w g = none_earlier P u t (wrote_before (Done s) P t w) (got_before (Done s) P t g)
none_earlier (Gone s c ∷ P) u t w g = none_earlier P u t (wrote_before (Gone s c) P t w) (got_before (Gone s c) P t g)
none_earlier (Told s ∷ P) u t w g = none_earlier P u t (wrote_before (Told s) P t w) (got_before (Told s) P t g)

-- the list with one more number: one that passes, and one that does not
last_in : (p q : ℕ → Bool) (m : ℕ) → p m ≡ true → (us : List ℕ) → ((u : ℕ) → In u us → p u ≡ q u) → map numbered (filter p (us ++ m ∷ [])) ≡ map numbered (filter q us) ++ numbered m ∷ []
last_in p q m h [] f = ap (λ (b : Bool). map numbered (cond b (m ∷ []) [])) h
last_in p q m h (u ∷ us) f = ap (λ (b : Bool). map numbered (cond b (u ∷ filter p (us ++ m ∷ [])) (filter p (us ++ m ∷ [])))) (f u (inl refl)) ∙ go (q u) (last_in p q m h us (λ v i. f v (inr i)))
  where
    go : (b : Bool) → map numbered (filter p (us ++ m ∷ [])) ≡ map numbered (filter q us) ++ numbered m ∷ []
        → map numbered (cond b (u ∷ filter p (us ++ m ∷ [])) (filter p (us ++ m ∷ []))) ≡ map numbered (cond b (u ∷ filter q us) (filter q us)) ++ numbered m ∷ []
    go true ih = ap (λ (ts : List Txn). numbered u ∷ ts) ih
    go false ih = ih

last_out : (p q : ℕ → Bool) (m : ℕ) → p m ≡ false → (us : List ℕ) → ((u : ℕ) → In u us → p u ≡ q u) → map numbered (filter p (us ++ m ∷ [])) ≡ map numbered (filter q us)
last_out p q m h [] f = ap (λ (b : Bool). map numbered (cond b (m ∷ []) [])) h
last_out p q m h (u ∷ us) f = ap (λ (b : Bool). map numbered (cond b (u ∷ filter p (us ++ m ∷ [])) (filter p (us ++ m ∷ [])))) (f u (inl refl)) ∙ go (q u) (last_out p q m h us (λ v i. f v (inr i)))
  where
    go : (b : Bool) → map numbered (filter p (us ++ m ∷ [])) ≡ map numbered (filter q us)
        → map numbered (cond b (u ∷ filter p (us ++ m ∷ [])) (filter p (us ++ m ∷ []))) ≡ map numbered (cond b (u ∷ filter q us) (filter q us))
    go true ih = ap (λ (ts : List Txn). numbered u ∷ ts) ih
    go false ih = ih

-- a Began
module _ (S : Setup) (P : List Event) (n : ℕ) (t : Txn) (s : Session) (l : Kind) (i : ℕ) (o : IsOrderly S P) (ends : EndsFollow P) (new : t.0 ≡ suc (begun_count P)) where
  not_begun : begun P t.0 ≡ false
  not_begun = elim (cases_Bool (begun P t.0)) [ inl b ↦ absurd (let m = o.numbered t.0 b in omega arith) | inr b ↦ b ]

  not_unfinished : unfinished P t.0 ≡ false
  not_unfinished = elim (cases_Bool (unfinished P t.0)) [ inl b ↦ absurd (both_ways _ not_begun (unfinished_begun P t.0 b)) | inr b ↦ b ]

  open_new : unfinished (Began t s l i ∷ P) t.0 ≡ true
  open_new =
      let f = ends t.0 not_begun in
      unfinished-cons (Began t s l i) P t.0 ∙ (λ j. (eq-eqb t.0 t.0 refl j || begun P t.0) && not (f.0 j) && not (f.1 j))

  open_old : (u : ℕ) → eqb t.0 u ≡ false → unfinished (Began t s l i ∷ P) u ≡ unfinished P u
  open_old u h = unfinished_same (Began t s l i) P u h refl refl

  old_number : (u : ℕ) → In u (numbers (begun_count P)) → eqb t.0 u ≡ false
  old_number u j = ne_eqb t.0 u (λ e. let m = numbers-In (begun_count P) u j in omega arith)

  more_unfinished : unfinished_in (Began t s l i ∷ P) ≡ unfinished_in P ++ t ∷ []
  unfolding txns begun_count numbers
  more_unfinished =
      last_in (unfinished (Began t s l i ∷ P)) (unfinished P) (suc (begun_count P)) (ap (unfinished (Began t s l i ∷ P)) (sym new) ∙ open_new) (numbers (begun_count P))
      (λ u j. open_old u (old_number u j))
      ∙ ap (λ (m : ℕ). unfinished_in P ++ numbered m ∷ []) (sym new)

  same_spot : (u : ℕ) → eqb t.0 u ≡ false → spot_of (Began t s l i ∷ P) u ≡ spot_of P u
  unfolding spot_of
  same_spot u h = ap (λ (b : Bool). cond b (record { kind = l; instance = i }) (spot_of P u)) h

  same_meets : (v u : ℕ) → eqb t.0 v ≡ false → eqb t.0 u ≡ false → meets S (Began t s l i ∷ P) n v u ≡ meets S P n v u
  unfolding meets on side
  same_meets v u a b = λ j. on_path S.tree n (same_spot v a j) && on_path S.tree n (same_spot u b j) && not (eqb (side_at S.tree n (same_spot v a j) v) (side_at S.tree n (same_spot u b j) u))

  none : (x : Cell) → (wrote P t.0 x ≡ false) × (got P t.0 x ≡ false)
  none x = new_accesses_none S P t.0 x o new

  before_others : (v : ℕ) → eqb t.0 v ≡ false → before_in S (Began t s l i ∷ P) n v ≡ before_in S P n v
  unfolding txns begun_count numbers earlier
  before_others v h =
      last_out (is_ahead S (Began t s l i ∷ P) n v) (is_ahead S P n v) (suc (begun_count P))
      (ap (λ (b : Bool). unfinished (Began t s l i ∷ P) (suc (begun_count P)) && meets S (Began t s l i ∷ P) n v (suc (begun_count P)) && b)
      (ap (λ (m : ℕ). earlier P m v) (sym new) ∙ earlier_none P t.0 v (λ x. (none x).0) (λ x. (none x).1))
      ∙ and_false (unfinished (Began t s l i ∷ P) (suc (begun_count P)) && meets S (Began t s l i ∷ P) n v (suc (begun_count P))))
      (numbers (begun_count P))
      (λ u j. let f = old_number u j in (λ k. open_old u f k && same_meets v u h f k && earlier P u v))

  before_new : before_in S (Began t s l i ∷ P) n t.0 ≡ []
  unfolding earlier
  before_new =
      (λ j. map numbered (filter (λ u. unfinished (Began t s l i ∷ P) u && meets S (Began t s l i ∷ P) n t.0 u && none_earlier P u t.0 (λ x. (none x).0) (λ x. (none x).1) j)
      (txns (Began t s l i ∷ P))))
      ∙ (λ j. map numbered (filter (λ u. and_false (unfinished (Began t s l i ∷ P) u && meets S (Began t s l i ∷ P) n t.0 u) j) (txns (Began t s l i ∷ P))))
      ∙ ap (map numbered) (no_members (txns (Began t s l i ∷ P)))

  pub noted_began : (k k' : Kept) → k'.lists ≡ k.lists → k'.unfinished ≡ k.unfinished + 1 → PredecessorsOf k S P n → PredecessorsOf k' S (Began t s l i ∷ P) n
  noted_began k k' same more was = record {
    ends = none_ends (Began t s l i) P (λ u. refl) (λ u. refl) ends;
    counted = let longer = ap (λ (us : List Txn). length us) more_unfinished ∙ length-append (unfinished_in P) (t ∷ []) in omega (arith, was.counted, more);
    ahead = λ v. list_same v ∙ was.ahead v ∙ go v (eqb t.0 v.0) refl;
  }
    where
      list_same : (v : Txn) → list_of k' v ≡ list_of k v
      list_same v = ap (λ (es : List (Txn × Txn)). list_of (record { lists = es; unfinished = 0; spare = 0 }) v) same

      empty : (b : Bool) → nobody ≡ cond b nobody nobody
      empty true = refl
      empty false = refl

      at_t : cond (unfinished P t.0) (before_in S P n t.0) [] ≡ cond (unfinished (Began t s l i ∷ P) t.0) (before_in S (Began t s l i ∷ P) n t.0) []
      at_t = ap (λ (b : Bool). cond b (before_in S P n t.0) []) not_unfinished ∙ empty (unfinished (Began t s l i ∷ P) t.0)
          ∙ sym (ap (λ (us : List Txn). cond (unfinished (Began t s l i ∷ P) t.0) us []) before_new)

      go : (v : Txn) (b : Bool) → eqb t.0 v.0 ≡ b → cond (unfinished P v.0) (before_in S P n v.0) [] ≡ cond (unfinished (Began t s l i ∷ P) v.0) (before_in S (Began t s l i ∷ P) n v.0) []
      go v true h = subst (λ (z : Txn). cond (unfinished P z.0) (before_in S P n z.0) [] ≡ cond (unfinished (Began t s l i ∷ P) z.0) (before_in S (Began t s l i ∷ P) n z.0) []) (one_txn t v h) at_t
      go v false h = sym (λ j. cond (open_old v.0 h j) (before_others v.0 h j) [])

-- the lists ascend
pub lists_ascend : (S : Setup) (H : List Event) (n : ℕ) (k : Kept) → PredecessorsOf k S H n → (v : Txn) → IsAscendingBy number_of (list_of k v)
lists_ascend S H n k was v = subst (IsAscendingBy number_of) (sym (was.ahead v)) (go (unfinished H v.0))
  where
    go : (b : Bool) → IsAscendingBy number_of (cond b (before_in S H n v.0) [])
    go true = before_ascends S H n v.0
    go false = tt

got_unfinished : (P : List Event) (t : Txn) (x : Cell) (w : Txn) (v : Option ℤ) → unfinished_in (Got t x w v ∷ P) ≡ unfinished_in P
unfolding txns begun_count
got_unfinished P t x w v = λ j. map numbered (filter (λ u. unfinished_same (Got t x w v) P u refl refl refl j) (numbers (begun_count P)))

put_unfinished : (P : List Event) (t : Txn) (x : Cell) (v : Option ℤ) → unfinished_in (Put t x v ∷ P) ≡ unfinished_in P
unfolding txns begun_count
put_unfinished P t x v = λ j. map numbered (filter (λ u. unfinished_same (Put t x v) P u refl refl refl j) (numbers (begun_count P)))

-- the event is a Put
abbrev pub is_put : Event → Bool
is_put (Put t x v) = true
is_put _ = false

-- the newest event of a history
module _ (S : Setup) (H : List Event) (n : ℕ) (e : Event) (i : H ≡ e ∷ drop 1 H) (m : MayNote S (drop 1 H) n e) (o : IsOrderly S (drop 1 H)) (k : Kept) (was : PredecessorsOf k S (drop 1 H) n) where
  may : (d : Event) → e ≡ d → MayNote S (drop 1 H) n d
  may d q = subst (λ (d : Event). MayNote S (drop 1 H) n d) q m

  is_now : (d : Event) → e ≡ d → H ≡ d ∷ drop 1 H
  is_now d q = i ∙ ap (λ (d : Event). d ∷ drop 1 H) q

  now : (k' : Kept) (d : Event) → e ≡ d → PredecessorsOf k' S (d ∷ drop 1 H) n → PredecessorsOf k' S H n
  now k' d q h = subst (λ (G : List Event). PredecessorsOf k' S G n) (sym (is_now d q)) h

  pub began_next : (k' : Kept) (t : Txn) (s : Session) (l : Kind) (j : ℕ) → e ≡ Began t s l j → k'.lists ≡ k.lists → k'.unfinished ≡ k.unfinished + 1 → PredecessorsOf k' S H n
  began_next k' t s l j q same more = now k' (Began t s l j) q (noted_began S (drop 1 H) n t s l j o was.ends (may (Began t s l j) q).0 k k' same more was)

  pub ready_next : ((t : Txn) × (e ≡ Ready t)) ⊎ ((t : Txn) × (e ≡ Told t)) → PredecessorsOf k S H n
  ready_next a = elim a [
    | inl q ↦ now k (Ready q.0) q.1 (noted_ready S (drop 1 H) n q.0 k was)
    | inr q ↦ now k (Told q.0) q.1 (noted_told S (drop 1 H) n q.0 k was)
  ]

  pub end_some : (t : Txn) → (e ≡ Done t) ⊎ ((c : Cause) × (e ≡ Gone t c)) → 0 < k.unfinished
  end_some t a =
      let open_ : unfinished (drop 1 H) t.0 ≡ true = elim a [ inl q ↦ may (Done t) q | inr q ↦ may (Gone t q.0) q.1 ] in
      let less = without_less t (unfinished_in (drop 1 H)) (unfinished_has S (drop 1 H) t o open_) in
      omega (arith, was.counted)

  pub end_next : (k' : Kept) (t : Txn) → (e ≡ Done t) ⊎ ((c : Cause) × (e ≡ Gone t c)) → k.unfinished ≡ k'.unfinished + 1
      → ((v : Txn) → list_of k' v ≡ cond (eqb t.0 v.0) [] (without t.0 (list_of k v))) → PredecessorsOf k' S H n
  end_next k' t a fewer lists = elim a [
    | inl q ↦ now k' (Done t) q (noted_done S (drop 1 H) n t o (may (Done t) q) k k' fewer lists was)
    | inr q ↦ now k' (Gone t q.0) q.1 (noted_gone S (drop 1 H) n t o (may (Gone t q.0) q.1) k k' fewer lists was q.0)
  ]

  module _ (t : Txn) (x : Cell) where
    -- the lists after an access
    abbrev pub Accessed : Kept → Bool → List Event → Type 0
    Accessed k' write G = (v : Txn) → list_of k' v ≡ cond (eqb t.0 v.0) (joined (in_the_way S G n t.0 write) (holds_in S G n x) (list_of k v)) (list_of k v)

    got_next : (k' : Kept) (w : Txn) (v : Option ℤ) → e ≡ Got t x w v → k'.unfinished ≡ k.unfinished → Accessed k' false H → PredecessorsOf k' S H n
    got_next k' w v q same lists =
        now k' (Got t x w v) q (noted_got S (drop 1 H) n t x w v k k' (may (Got t x w v) q).0 same (subst (λ (G : List Event). Accessed k' false G) (is_now (Got t x w v) q) lists) was)

    put_next : (k' : Kept) (v : Option ℤ) → e ≡ Put t x v → k'.unfinished ≡ k.unfinished → Accessed k' true H → PredecessorsOf k' S H n
    put_next k' v q same lists =
        now k' (Put t x v) q (noted_put S (drop 1 H) n t x v k k' (may (Put t x v) q).0 same (subst (λ (G : List Event). Accessed k' true G) (is_now (Put t x v) q) lists) was)

    few : (d : Event) → e ≡ d → unfinished_in (d ∷ drop 1 H) ≡ unfinished_in (drop 1 H) → length (holds_in S H n x) ≤ k.unfinished
    few d q same =
        let l = few_holders S H n x in
        let s = ap (λ (us : List Txn). length us) (ap unfinished_in (is_now d q) ∙ same) in
        omega (arith, was.counted)

    got_few : (w : Txn) (v : Option ℤ) → e ≡ Got t x w v → length (holds_in S H n x) ≤ k.unfinished
    got_few w v q = few (Got t x w v) q (got_unfinished (drop 1 H) t x w v)

    put_few : (v : Option ℤ) → e ≡ Put t x v → length (holds_in S H n x) ≤ k.unfinished
    put_few v q = few (Put t x v) q (put_unfinished (drop 1 H) t x v)

    -- the event is an access of t to x
    abbrev pub IsAccess : Type 0
    IsAccess = ((w : Txn) × (v : Option ℤ) × (e ≡ Got t x w v)) ⊎ ((v : Option ℤ) × (e ≡ Put t x v))

    pub access_next : (k' : Kept) → IsAccess → k'.unfinished ≡ k.unfinished → Accessed k' (is_put e) H → PredecessorsOf k' S H n
    access_next k' a same lists = elim a [
      | inl q ↦ got_next k' q.0 q.1 q.2 same (subst (λ (b : Bool). Accessed k' b H) (ap is_put q.2) lists)
      | inr q ↦ put_next k' q.0 q.1 same (subst (λ (b : Bool). Accessed k' b H) (ap is_put q.1) lists)
    ]

    pub access_few : IsAccess → length (holds_in S H n x) ≤ k.unfinished
    access_few a = elim a [ inl q ↦ got_few q.0 q.1 q.2 | inr q ↦ put_few q.0 q.1 ]
