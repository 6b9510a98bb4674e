-- The versions of a chain and its places determine each other.
use Rattle.std.proofs.Common.{true, false, Bool, eqb, not, ◌≡◌, ◌≢◌, ℕ, zero, suc, ◌<◌, ◌≤◌, List, [], ◌∷◌, length, get_or, map, filter, refl}
use Rattle.std.proofs.Common.{sym, ◌∙◌, ap, subst, arith, Option, Some, None, IfSome, MatchOption, eqb-true, ne_eqb, slice_get, IsTrue}
use Rattle.std.proofs.lemmas.Bool.{false_from_ne_true, le-leb}
use Rattle.std.proofs.lemmas.List.{get_or-map, length-map}
use Rattle.teb_rules.specs.declared.names.Cell.{Cell}
use Rattle.teb_rules.specs.declared.names.Txn.{Txn}
use Rattle.version_chain.specs.Lists.{Version, without, writers_of, is_writer, first_place, last_place, unless_below}
use Rattle.version_chain.specs.declared.chains.Found.{Found}
use Rattle.version_chain.proofs.Places.{IsLast, first_place_is, last_place-found, writer_at, length-writers, is_writer-at, last_where_is, first_of_writer}
use Rattle.chain_pool.specs.declared.places.Place.{Place}
use Rattle.chain_pool.specs.declared.places.Head.{Head}
use Rattle.chain_pool.specs.Threads.{steps}
use Rattle.chain_pool.specs.Places.{slot_at, sibling_at, cell_in, pair_at, InChain, IsOwned}
use Rattle.chain_pool.specs.Linked.{Linked, versions, nth_place}
use Rattle.chain_pool.proofs.Threads.{thread-steps}
use Rattle.chain_pool.proofs.Rings.{steps-at}
use Rattle.chain_pool.proofs.Slots.{ring-versions, pair_owner, owner_pair}

get_some : (vs : List Version) (i : ℕ) (d : Version) → i < length vs → slice_get vs i ≡ Some (get_or vs i d)
get_some [] i d lt = absurd (omega (arith, lt))
get_some (v ∷ vs) zero d lt = refl
get_some (v ∷ vs) (suc i) d lt = get_some vs i d (omega (arith, lt))

filter-all : (f : Version → Bool) (vs : List Version) (d : Version) → ((j : ℕ) → j < length vs → f (get_or vs j d) ≡ true) → filter f vs ≡ vs
filter-all f [] d h = refl
filter-all f (v ∷ vs) d h = let t : f v ≡ true = h 0 (omega arith) in rw t (ap (λ l. v ∷ l) (filter-all f vs d (λ j lt. h (suc j) (omega arith))))

-- if at most one element passes, the last that passes is the first
last_is_first : (p : ℕ → Bool) (ws : List ℕ) → ((i j : ℕ) → i < length ws → j < length ws → p (get_or ws i 0) ≡ true → p (get_or ws j 0) ≡ true → i ≡ j) → (o : Option ℕ) → IsLast p ws o
    → unless_below 0 o ≡ first_place p ws
last_is_first p ws one None h = first_place_is p ws None h
last_is_first p ws one (Some i) h =
    let le : 0 ≤ i = omega arith in
    rw (le-leb 0 i le) (first_place_is p ws (Some i) (h.0, h.1, λ j le lt. false_from_ne_true _ (λ t. let e = one j i (omega (arith, lt, h.0)) h.0 t h.1 in omega (arith, e, lt))))

module _ (ps : List Place) (chain : Cell → Head) (own : Txn → Head) (unused : Head) (S : Linked ps chain own unused) where
  pub is_map : (x : Cell) → versions ps (chain x) ≡ map (pair_at ps) (S.chains x).thread.places
  is_map x = ring-versions ps x (chain x) _ (S.chains x, refl)

  pub versions_len : (x : Cell) → length (versions ps (chain x)) ≡ (chain x).len
  versions_len x = ap length (is_map x) ∙ (length-map _ (pair_at ps) ∙ (S.chains x).thread.count)

  -- the version at a place, found by the ring's places and by the walk from its end
  pub versions_get : (x : Cell) (j : ℕ) (d : Version) → j < (chain x).len → get_or (versions ps (chain x)) j d ≡ pair_at ps (get_or (S.chains x).thread.places j 0)
  versions_get x j d lt = ap (λ l. get_or l j d) (is_map x) ∙ get_or-map (pair_at ps) _ j 0 d (omega (arith, (S.chains x).thread.count, lt))

  pub versions_nth : (x : Cell) (j : ℕ) (d : Version) → j < (chain x).len → get_or (versions ps (chain x)) j d ≡ pair_at ps (nth_place ps (chain x) j)
  versions_nth x j d lt = versions_get x j d lt ∙ ap (pair_at ps) (sym (steps-at _ _ _ _ _ (S.chains x) j lt))

  pub slice_get-versions : (x : Cell) (i : ℕ) → i < length (versions ps (chain x)) → slice_get (versions ps (chain x)) i ≡ Some (pair_at ps (nth_place ps (chain x) i))
  slice_get-versions x i lt = get_some _ i (pair_at ps 0) lt ∙ ap Some (versions_nth x i (pair_at ps 0) (omega (arith, versions_len x, lt)))

  -- the version that a walk found at a place is the chain's version there
  pub found_version : (x : Cell) (h : Head) → h ≡ chain x → (r : Option Found) → IfSome r (λ v. v.at < h.len) → IfSome r (λ v. pair_at ps (nth_place ps h v.at) ≡ (v.writer, v.value))
      → IfSome r (λ v. slice_get (versions ps h) v.at ≡ Some (v.writer, v.value))
  found_version x h is None low pair = pair
  found_version x h is (Some v) low pair =
      let in_len : v.at < (chain x).len = subst (λ (g : Head). v.at < g.len) is low in
      ap (λ (g : Head). slice_get (versions ps g) v.at) is
      ∙ (slice_get-versions x v.at (omega (arith, versions_len x, in_len)) ∙ (ap (λ (g : Head). Some (pair_at ps (nth_place ps g v.at))) (sym is) ∙ ap Some pair))

  -- a writer with an empty list has no version
  pub none_left : (t : Txn) → (own t).len ≡ 0 → (x : Cell) → without t.0 (versions ps (chain x)) ≡ versions ps (chain x)
  none_left t none x = filter-all (λ v. not (eqb v.0.0 t.0)) _ (pair_at ps 0) other
    where
      other : (j : ℕ) → j < length (versions ps (chain x)) → not (eqb (get_or (versions ps (chain x)) j (pair_at ps 0)).0.0 t.0) ≡ true
      other j lt =
          let in_len : j < (chain x).len = omega (arith, versions_len x, lt) in
          let m = (S.chains x).thread.inside j in_len in
          let apart : (pair_at ps (get_or (S.chains x).thread.places j 0)).0.0 ≢ t.0 = λ e.
          let at = (S.owners t).complete _ (owner_pair ps x t _ m (let made : ℕ → Txn = λ k. record { 0 = k } in ap made e)) in omega (arith, at.1.0, none) in
          ap (λ (v : Version). not (eqb v.0.0 t.0)) (versions_get x j (pair_at ps 0) in_len) ∙ ap not (ne_eqb _ _ apart)

  -- a transaction that is not a writer owns no place of the chain
  pub absent_from : (x : Cell) (t : Txn) → is_writer (versions ps (chain x)) t.0 ≡ false → (p : ℕ) → InChain ps x p → IsOwned ps t p → ⊥
  absent_from x t off p m o =
      let at = (S.chains x).thread.complete p m in
      let lt : at.0 < length (versions ps (chain x)) = omega (arith, versions_len x, at.1.0) in
      let is : (get_or (versions ps (chain x)) at.0 (pair_at ps 0)).0.0 ≡ t.0 =
      ap (λ (v : Version). v.0.0) (versions_get x at.0 (pair_at ps 0) at.1.0) ∙ (ap (λ k. (pair_at ps k).0.0) at.1.1 ∙ ap (λ (u : Txn). u.0) (pair_owner ps t p o)) in
      let there = is_writer-at (versions ps (chain x)) at.0 (pair_at ps 0) lt in
      let z : true ≡ false = sym there ∙ (ap (is_writer (versions ps (chain x))) is ∙ off) in
      cc

  -- a chain has at most one version of each writer
  pub one_each : (x : Cell) (t : ℕ) (i j : ℕ) → i < length (writers_of (versions ps (chain x))) → j < length (writers_of (versions ps (chain x)))
      → eqb (get_or (writers_of (versions ps (chain x))) i 0) t ≡ true → eqb (get_or (writers_of (versions ps (chain x))) j 0) t ≡ true → i ≡ j
  one_each x t i j li lj ei ej =
      let n : length (writers_of (versions ps (chain x))) ≡ (chain x).len = length-writers _ ∙ versions_len x in
      (S.chains x).thread.distinct i j (omega (arith, n, li)) (omega (arith, n, lj))
      (S.once x (record { 0 = t }) _ _ ((S.chains x).thread.inside i (omega (arith, n, li))) ((S.chains x).thread.inside j (omega (arith, n, lj))) (owned i (omega (arith, n, li)) ei)
      (owned j (omega (arith, n, lj)) ej))
    where
      owned : (k : ℕ) → k < (chain x).len → eqb (get_or (writers_of (versions ps (chain x))) k 0) t ≡ true → IsOwned ps (record { 0 = t }) (get_or (S.chains x).thread.places k 0)
      owned k lt e =
          let low : k < length (versions ps (chain x)) = omega (arith, versions_len x, lt) in
          let is : (pair_at ps (get_or (S.chains x).thread.places k 0)).0.0 ≡ t =
          sym (writer_at _ k (pair_at ps 0) low ∙ ap (λ (v : Version). v.0.0) (versions_get x k (pair_at ps 0) lt)) ∙ eqb-true _ t e in
          owner_pair ps x (record { 0 = t }) _ ((S.chains x).thread.inside k lt) (let made : ℕ → Txn = λ k. record { 0 = k } in ap made is)

  pub find_last : (x : Cell) (t : ℕ) → unless_below 0 (last_place (λ w. eqb w t) (writers_of (versions ps (chain x)))) ≡ first_place (λ w. eqb w t) (writers_of (versions ps (chain x)))
  find_last x t = last_is_first (λ w. eqb w t) (writers_of (versions ps (chain x))) (one_each x t) _ (last_place-found (λ w. eqb w t) (writers_of (versions ps (chain x))))

  -- if a writer's list has no version of the cell, the chain has no version of the writer
  pub find_none : (x : Cell) (t : Txn) → ((n : ℕ) → n < (own t).len → cell_in (slot_at ps (steps (sibling_at ps) n (own t).first)) ≡ Some x → ⊥)
      → None ≡ first_place (λ w. eqb w t.0) (writers_of (versions ps (chain x)))
  find_none x t none = first_of_writer (versions ps (chain x)) t None (λ j d lt is.
      let in_len : j < (chain x).len = omega (arith, versions_len x, lt) in
      let m = (S.chains x).thread.inside j in_len in
      let o = owner_pair ps x t _ m (ap (λ (v : Version). v.0) (sym (versions_get x j d in_len)) ∙ is) in
      let at = (S.owners t).complete _ o in
      none at.0 at.1.0 (ap (λ p. cell_in (slot_at ps p)) (thread-steps _ _ _ _ (S.owners t) at.0 at.1.0 ∙ at.1.1) ∙ m.is_mine))

  -- a search from the end of the chain
  pub last_found : (x : Cell) (h : Head) → h ≡ chain x → (p : ℕ → Bool) (Answers : Txn → Bool → Type 0)
      → ((u : Txn) (b : Bool) → IsTrue (is_writer (versions ps (chain x)) u.0) → Answers u b → b ≡ p u.0)
      → (from : ℕ) (r : Option ℕ)
      → MatchOption r ((j : ℕ) → from ≤ j → j < h.len → Answers (pair_at ps (nth_place ps h j)).0 false)
      (λ i. (from ≤ i) × (i < h.len) × Answers (pair_at ps (nth_place ps h i)).0 true × ((j : ℕ) → i < j → j < h.len → Answers (pair_at ps (nth_place ps h j)).0 false))
      → r ≡ unless_below from (last_place p (writers_of (versions ps (chain x))))
  last_found x h is p Answers agrees from r found = last_where_is (versions ps (chain x)) p Answers agrees from r
      (places r (subst (λ (g : Head). MatchOption r ((j : ℕ) → from ≤ j → j < g.len → Answers (pair_at ps (nth_place ps g j)).0 false)
      (λ i. (from ≤ i) × (i < g.len) × Answers (pair_at ps (nth_place ps g i)).0 true × ((j : ℕ) → i < j → j < g.len → Answers (pair_at ps (nth_place ps g j)).0 false))) is found))
    where
      n : length (versions ps (chain x)) ≡ (chain x).len
      n = versions_len x

      said : (b : Bool) (j : ℕ) (d : Version) → j < (chain x).len → Answers (pair_at ps (nth_place ps (chain x) j)).0 b → Answers (get_or (versions ps (chain x)) j d).0 b
      said b j d lt a = subst (λ (u : Txn). Answers u b) (ap (λ (v : Version). v.0) (sym (versions_nth x j d lt))) a

      places : (r : Option ℕ)
          → MatchOption r ((j : ℕ) → from ≤ j → j < (chain x).len → Answers (pair_at ps (nth_place ps (chain x) j)).0 false)
          (λ i. (from ≤ i) × (i < (chain x).len) × Answers (pair_at ps (nth_place ps (chain x) i)).0 true
          × ((j : ℕ) → i < j → j < (chain x).len → Answers (pair_at ps (nth_place ps (chain x) j)).0 false))
          → MatchOption r ((j : ℕ) (d : Version) → from ≤ j → j < length (versions ps (chain x)) → Answers (get_or (versions ps (chain x)) j d).0 false)
          (λ i. (from ≤ i) × (i < length (versions ps (chain x))) × ((d : Version) → Answers (get_or (versions ps (chain x)) i d).0 true)
          × ((j : ℕ) (d : Version) → i < j → j < length (versions ps (chain x)) → Answers (get_or (versions ps (chain x)) j d).0 false))
      places None found = λ j d le lt. let low : j < (chain x).len = omega (arith, n, lt) in said false j d low (found j le low)
      places (Some i) found = (
        found.0,
        omega (arith, n, found.1),
        λ d. said true i d found.1 found.2,
        λ j d above lt. let low : j < (chain x).len = omega (arith, n, lt) in
            said false j d low (found.3 j above low),
      )

  -- each writer that a walk visits is a writer of the chain
  pub is_writer-nth : (x : Cell) (h : Head) → h ≡ chain x → (j : ℕ) → j < h.len → is_writer (versions ps (chain x)) (pair_at ps (nth_place ps h j)).0.0 ≡ true
  is_writer-nth x h is j lt =
      let low : j < (chain x).len = subst (λ (g : Head). j < g.len) is lt in
      ap (λ (g : Head). is_writer (versions ps (chain x)) (pair_at ps (nth_place ps g j)).0.0) is
      ∙ (ap (λ (v : Version). is_writer (versions ps (chain x)) v.0.0) (sym (versions_nth x j (pair_at ps 0) low)) ∙ is_writer-at (versions ps (chain x)) j (pair_at ps 0)
      (omega (arith, versions_len x, low)))
