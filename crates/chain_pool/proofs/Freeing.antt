-- Freeing the first place of a writer's list keeps the links sound and removes only that writer's version from its chain.
use Rattle.std.proofs.Common.{true, false, Bool, eqb, cond, not, ◌≡◌, ◌==◌, ℕ, zero, suc, ◌+◌, ◌-◌, ◌<◌, ◌≢◌, List, [], ◌∷◌, length}
use Rattle.std.proofs.Common.{get_or, map, filter, refl, sym, ◌∙◌, ap, subst, inl, inr, arith, if◌then◌else◌, None, Some, eq-eqb}
use Rattle.std.specs.List.{remove}
use Rattle.std.proofs.lemmas.Bool.{cases_eq}
use Rattle.std.proofs.lemmas.List.{get_or-map, length-map}
use Rattle.teb_rules.specs.declared.names.Cell.{Cell}
use Rattle.teb_rules.specs.declared.names.Txn.{Txn}
use Rattle.teb_rules.specs.names.Cells.{same_cell}
use Rattle.version_chain.specs.Lists.{Version, without}
use Rattle.version_chain.proofs.Cells.{same_cell-itself, same_cell-exact}
use Rattle.chain_pool.specs.declared.places.Place.{Place}
use Rattle.chain_pool.specs.declared.places.Head.{Head}
use Rattle.chain_pool.specs.Threads.{Thread, Ring}
use Rattle.chain_pool.specs.Places.{Slot, slot_at, next_at, previous_at, sibling_at, cell_in, pair_at, InChain, IsOwned, IsFree}
use Rattle.chain_pool.specs.Heads.{same_txn, without_place, last_without}
use Rattle.chain_pool.specs.Linked.{Linked, HasLasts, versions}
use Rattle.chain_pool.proofs.Keys.{same_txn-itself, same_txn-exact, key_cases, key_apart, key_other}
use Rattle.chain_pool.proofs.Threads.{high, low, thread-insert, thread-remove, thread-keep}
use Rattle.chain_pool.proofs.Rings.{step_back, ring-remove, ring-keep, places-ring-remove, places-ring-keep, mine_next, mine_previous}
use Rattle.chain_pool.proofs.Slots.{chosen, passed, map-remove, map-agree, RingWith, ring-versions, ring-end, same-end, one_chain, one_owner, free_chain}
use Rattle.chain_pool.proofs.Slots.{free_owned, pair_owner, slot_here, slot_else, pair_else, chain_kept, chain_was, owned_kept, owned_was, free_kept, free_was}

-- the state after the place is freed
pub record IsFreed (ps ps' : List Place) (chain chain' : Cell → Head) (own own' : Txn → Head) (unused' : Head) (t : Txn) (cell : Cell) (p a : ℕ) : Type 0 where
  pub linked : Linked ps' chain' own' unused'
  pub fewer : (own' t).len + 1 ≡ (own t).len
  pub kept : (x : Cell) → without t.0 (versions ps' (chain' x)) ≡ without t.0 (versions ps (chain x))
  pub lasts : (last last' : Cell → ℕ) → HasLasts ps chain last → ((y : Cell) → last' y ≡ (if same_cell cell y then last_without (last cell) p a else last y)) → HasLasts ps' chain' last'

filter-remove : (f : Version → Bool) (vs : List Version) (i : ℕ) (d : Version) → i < length vs → f (get_or vs i d) ≡ false → filter f (remove vs i) ≡ filter f vs
filter-remove f [] i d lt off = absurd (omega (arith, lt))
filter-remove f (v ∷ vs) zero d lt off = rw off
filter-remove f (v ∷ vs) (suc i) d lt off = ap (λ l. cond (f v) (v ∷ l) l) (filter-remove f vs i d (omega (arith, lt)) off)

-- the place p, the first of t's list, is between a and b in the chain of its cell
module _ (ps ps' : List Place) (chain chain' : Cell → Head) (own own' : Txn → Head) (unused : Head) (S : Linked ps chain own unused)
    (cell : Cell) (t : Txn) (p a b : ℕ)
    (p_is : p ≡ (own t).first) (some : 0 < (own t).len) (cell_is : cell_in (slot_at ps p) ≡ Some cell)
    (a_is : a ≡ previous_at ps p) (b_is : b ≡ next_at ps p)
    (len : length ps' ≡ length ps) where
  abbrev pub free_slot : Slot
  free_slot = record { version = None; sibling = unused.first }

  abbrev pub shorter_own : Head
  shorter_own = record { first = sibling_at ps p; len = (own t).len - 1 }

  abbrev pub more_free : Head
  more_free = record { first = p; len = unused.len + 1 }

  p_owned : IsOwned ps t p
  p_owned = subst (IsOwned ps t) (sym (p_is ∙ (S.owners t).head some)) ((S.owners t).inside 0 some)

  p_mine : InChain ps cell p
  p_mine = record { within = p_owned.within; is_mine = cell_is }

  p_place : (i : ℕ) × ((i < (chain cell).len) × (get_or (S.chains cell).thread.places i 0 ≡ p))
  p_place = (S.chains cell).thread.complete p p_mine

  a_mine : InChain ps cell a
  a_mine = subst (InChain ps cell) (sym a_is) (mine_previous _ _ _ _ _ (S.chains cell) p p_mine)

  b_mine : InChain ps cell b
  b_mine = subst (InChain ps cell) (sym b_is) (mine_next _ _ _ _ _ (S.chains cell) p p_mine)

  module _ (next : (r : ℕ) → next_at ps' r ≡ (if r == a then b else next_at ps r))
      (previous : (r : ℕ) → previous_at ps' r ≡ (if r == b then a else previous_at ps r))
      (slots : (r : ℕ) → slot_at ps' r ≡ (if r == p then free_slot else slot_at ps r))
      (chains_are : (y : Cell) → chain' y ≡ (if same_cell cell y then without_place (chain cell) p b else chain y))
      (owners_are : (u : Txn) → own' u ≡ (if same_txn t u then shorter_own else own u)) where
    fh : slot_at ps' p ≡ free_slot
    fh = slot_here ps ps' p free_slot len slots

    now_free : IsFree ps' p
    now_free = record { within = omega (arith, p_owned.within, len); free = ap (λ (z : Slot). z.version) fh }

    not_p : (x : Cell) (r : ℕ) → InChain ps' x r → r ≢ p
    not_p x r m e = free_chain ps' p x now_free (subst (InChain ps' x) e m)

    not_p_owned : (u : Txn) (r : ℕ) → IsOwned ps' u r → r ≢ p
    not_p_owned u r m e = free_owned ps' p u now_free (subst (IsOwned ps' u) e m)

    free_not_p : (r : ℕ) → IsFree ps r → r ≢ p
    free_not_p r m e = free_chain ps p cell (subst (IsFree ps) e m) p_mine

    here_shorter : RingWith (InChain ps' cell) (next_at ps') (previous_at ps') (without_place (chain cell) p b) (remove (S.chains cell).thread.places p_place.0)
    here_shorter =
        let kept : (s : ℕ) → InChain ps cell s → s ≢ p → InChain ps' cell s = λ s m ne. chain_kept ps ps' p free_slot len slots cell s ne m in
        let only : (s : ℕ) → InChain ps' cell s → InChain ps cell s × (s ≢ p) = λ s m. (chain_was ps ps' p free_slot len slots cell s (not_p cell s m) m, not_p cell s m) in
        let next_a : next_at ps' a ≡ b = next a ∙ chosen a a _ _ refl in
        let previous_b : previous_at ps' b ≡ a = previous b ∙ chosen b b _ _ refl in
        let next_else : (s : ℕ) → s ≢ a → s ≢ p → next_at ps' s ≡ next_at ps s = λ s na np. next s ∙ passed s a _ _ na in
        let previous_else : (s : ℕ) → s ≢ b → s ≢ p → previous_at ps' s ≡ previous_at ps s = λ s nb np. previous s ∙ passed s b _ _ nb in
        let turn : (chain cell).first ≡ p → (without_place (chain cell) p b).first ≡ b = λ e. chosen _ p _ _ e in
        let stay : (chain cell).first ≢ p → (without_place (chain cell) p b).first ≡ (chain cell).first = λ ne. passed _ p _ _ ne in (
          ring-remove _ _ _ _ _ _ _ _ (S.chains cell) p p_place.0 a b p_place.1.0 p_place.1.1 a_is b_is kept only next_a next_else previous_b previous_else (without_place (chain cell) p b).first turn
              stay,
          places-ring-remove _ _ _ _ _ _ _ _ (S.chains cell) p p_place.0 a b p_place.1.0 p_place.1.1 a_is b_is kept only next_a next_else previous_b previous_else
              (without_place (chain cell) p b).first turn stay,
        )

    elsewhere : (y : Cell) → cell ≢ y → (r : ℕ) → InChain ps y r → (r ≢ p) × ((r ≢ a) × (r ≢ b))
    elsewhere y ne r m =
        let apart : (k : ℕ) → InChain ps cell k → r ≢ k = λ k mk e. ne (one_chain ps k cell y mk (subst (InChain ps y) e m)) in
        (apart p p_mine, (apart a a_mine, apart b b_mine))

    other_chain : (y : Cell) → cell ≢ y → RingWith (InChain ps' y) (next_at ps') (previous_at ps') (chain y) (S.chains y).thread.places
    other_chain y ne =
        let kept : (r : ℕ) → InChain ps y r → InChain ps' y r = λ r m. chain_kept ps ps' p free_slot len slots y r (elsewhere y ne r m).0 m in
        let only : (r : ℕ) → InChain ps' y r → InChain ps y r = λ r m. chain_was ps ps' p free_slot len slots y r (not_p y r m) m in
        let same : (r : ℕ) → InChain ps y r → next_at ps' r ≡ next_at ps r = λ r m. next r ∙ passed r a _ _ (elsewhere y ne r m).1.0 in
        let same_back : (r : ℕ) → InChain ps y r → previous_at ps' r ≡ previous_at ps r = λ r m. previous r ∙ passed r b _ _ (elsewhere y ne r m).1.1 in
        (ring-keep _ _ _ _ _ _ _ _ (S.chains y) kept only same same_back, places-ring-keep _ _ _ _ _ _ _ _ (S.chains y) kept only same same_back)

    sibling_else : (r : ℕ) → r ≢ p → sibling_at ps' r ≡ sibling_at ps r
    sibling_else r ne = ap (λ (z : Slot). z.sibling) (slot_else ps ps' p free_slot len slots r ne)

    p_at : get_or (S.owners t).places 0 0 ≡ p
    p_at = sym (p_is ∙ (S.owners t).head some)

    fewer_owned : Thread (IsOwned ps' t) (sibling_at ps') (sibling_at ps p) ((own t).len - 1)
    fewer_owned = thread-remove (IsOwned ps t) (IsOwned ps' t) (sibling_at ps) (sibling_at ps') _ _ (S.owners t) p 0 some p_at
        (λ r m ne. owned_kept ps ps' p free_slot len slots t r ne m)
        (λ r m. (owned_was ps ps' p free_slot len slots t r (not_p_owned t r m) m, not_p_owned t r m))
        (λ lo. absurd (omega (arith, lo)))
        (λ j lt ne1 ne2. sibling_else _ (λ e. ne2 ((S.owners t).distinct j 0 (omega arith) some (e ∙ sym p_at))))
        (sibling_at ps p) (λ _ more. ap (sibling_at ps) (sym p_at) ∙ (S.owners t).link 0 (omega arith)) (λ lo. absurd (omega (arith, lo)))

    others_owned : (u : Txn) → t ≢ u → Thread (IsOwned ps' u) (sibling_at ps') (own u).first (own u).len
    others_owned u ne =
        let off : (r : ℕ) → IsOwned ps u r → r ≢ p = λ r m e. ne (one_owner ps p t u p_owned (subst (IsOwned ps u) e m)) in
        thread-keep _ _ _ _ _ _ (S.owners u) (λ r m. owned_kept ps ps' p free_slot len slots u r (off r m) m)
        (λ r m. owned_was ps ps' p free_slot len slots u r (not_p_owned u r m) m)
        (λ r m. sibling_else r (off r m))

    more : Thread (IsFree ps') (sibling_at ps') p (unused.len + 1)
    more = thread-insert (IsFree ps) (IsFree ps') (sibling_at ps) (sibling_at ps') _ _ S.frees p 0 (omega arith)
        (λ m. free_not_p p m refl) now_free (λ r m. free_kept ps ps' p free_slot len slots r (free_not_p r m) m)
        (λ r m. elim (cases_eq r p) [ inl e ↦ inr e | inr ne ↦ inl (free_was ps ps' p free_slot len slots r ne m) ])
        (λ lo. absurd (omega (arith, lo)))
        (λ lo. ap (λ (z : Slot). z.sibling) fh ∙ S.frees.head lo)
        (λ j lt _. sibling_else _ (free_not_p _ (S.frees.inside j (omega arith))))
        p (λ _. refl) (λ lo. absurd (omega (arith, lo)))

    chain_here : chain' cell ≡ without_place (chain cell) p b
    chain_here = let same : same_cell cell cell ≡ true = same_cell-itself cell in chains_are cell ∙ ap (λ (o : Bool). if o then without_place (chain cell) p b else chain cell) same

    chain_else : (y : Cell) → cell ≢ y → chain' y ≡ chain y
    chain_else y ne = chains_are y ∙ ap (λ (o : Bool). if o then without_place (chain cell) p b else chain y) (key_other same_cell same_cell-itself same_cell-exact cell y ne)

    own_here : own' t ≡ shorter_own
    own_here = let same : same_txn t t ≡ true = same_txn-itself t in owners_are t ∙ ap (λ (o : Bool). if o then shorter_own else own t) same

    own_else : (u : Txn) → t ≢ u → own' u ≡ own u
    own_else u ne = owners_are u ∙ ap (λ (o : Bool). if o then shorter_own else own u) (key_other same_txn same_txn-itself same_txn-exact t u ne)

    freed : Linked ps' chain' own' more_free
    freed = record {
      chains = λ y. elim (key_cases same_cell same_cell-itself same_cell-exact cell y) [
        | inl e ↦ subst (λ (x : Cell). Ring (InChain ps' x) (next_at ps') (previous_at ps') (chain' x).first (chain' x).len) e
            (subst (λ (g : Head). Ring (InChain ps' cell) (next_at ps') (previous_at ps') g.first g.len) (sym chain_here) here_shorter.0)
        | inr off ↦
            let ne = key_apart same_cell same_cell-itself same_cell-exact cell y off in
            subst (λ (g : Head). Ring (InChain ps' y) (next_at ps') (previous_at ps') g.first g.len) (sym (chain_else y ne)) (other_chain y ne).0
      ];
      owners = λ u. elim (key_cases same_txn same_txn-itself same_txn-exact t u) [
        | inl e ↦ subst (λ (x : Txn). Thread (IsOwned ps' x) (sibling_at ps') (own' x).first (own' x).len) e
            (subst (λ (g : Head). Thread (IsOwned ps' t) (sibling_at ps') g.first g.len) (sym own_here) fewer_owned)
        | inr off ↦
            let ne = key_apart same_txn same_txn-itself same_txn-exact t u off in
            subst (λ (g : Head). Thread (IsOwned ps' u) (sibling_at ps') g.first g.len) (sym (own_else u ne)) (others_owned u ne)
      ];
      frees = more;
      short = omega (arith, len, S.short);
      once = λ x u k r mk mr ok or. S.once x u k r (chain_was ps ps' p free_slot len slots x k (not_p x k mk) mk) (chain_was ps ps' p free_slot len slots x r (not_p x r mr) mr)
          (owned_was ps ps' p free_slot len slots u k (not_p x k mk) ok) (owned_was ps ps' p free_slot len slots u r (not_p x r mr) or);
    }

    same_pair : (r : ℕ) → r ≢ p → pair_at ps' r ≡ pair_at ps r
    same_pair = pair_else ps ps' p free_slot len slots

    without_kept : (y : Cell) → without t.0 (versions ps' (chain' y)) ≡ without t.0 (versions ps (chain y))
    without_kept y = elim (key_cases same_cell same_cell-itself same_cell-exact cell y) [
      | inl e ↦ subst (λ (x : Cell). without t.0 (versions ps' (chain' x)) ≡ without t.0 (versions ps (chain x))) e here
      | inr off ↦ let ne = key_apart same_cell same_cell-itself same_cell-exact cell y off in ap (λ g. without t.0 (versions ps' g)) (chain_else y ne) ∙ ap (without t.0) (there ne)
    ]
      where
        there : cell ≢ y → versions ps' (chain y) ≡ versions ps (chain y)
        there ne = ring-versions ps' y (chain y) _ (other_chain y ne)
            ∙ (map-agree (pair_at ps') (pair_at ps) _ (λ j lt. same_pair _ (elsewhere y ne _ ((S.chains y).thread.inside j (omega (arith, (S.chains y).thread.count, lt)))).0)
            ∙ sym (ring-versions ps y (chain y) _ (S.chains y, refl)))

        here : without t.0 (versions ps' (chain' cell)) ≡ without t.0 (versions ps (chain cell))
        here =
            let L = (S.chains cell).thread.places in
            let in_L : p_place.0 < length L = omega (arith, (S.chains cell).thread.count, p_place.1.0) in
            let new : versions ps' (without_place (chain cell) p b) ≡ map (pair_at ps') (remove L p_place.0) = ring-versions ps' cell (without_place (chain cell) p b) _ here_shorter in
            let count : length (remove L p_place.0) ≡ (chain cell).len - 1 = ap length (sym here_shorter.1) ∙ here_shorter.0.thread.count in
            let same : map (pair_at ps') (remove L p_place.0) ≡ map (pair_at ps) (remove L p_place.0) =
            map-agree (pair_at ps') (pair_at ps) _
            (λ j lt. same_pair _ (not_p cell _ (subst (λ l. InChain ps' cell (get_or l j 0)) here_shorter.1 (here_shorter.0.thread.inside j (omega (arith, count, lt)))))) in
            let old : versions ps (chain cell) ≡ map (pair_at ps) L = ring-versions ps cell (chain cell) _ (S.chains cell, refl) in
            let at : get_or (map (pair_at ps) L) p_place.0 (pair_at ps 0) ≡ pair_at ps p = get_or-map (pair_at ps) L p_place.0 0 (pair_at ps 0) in_L ∙ ap (pair_at ps) p_place.1.1 in
            let gone : not (eqb (get_or (map (pair_at ps) L) p_place.0 (pair_at ps 0)).0.0 t.0) ≡ false =
            ap (λ (v : Version). not (eqb v.0.0 t.0)) at ∙ ap not (eq-eqb _ _ (ap (λ (w : Txn). w.0) (pair_owner ps t p p_owned))) in
            let n : length (map (pair_at ps) L) ≡ length L = length-map _ (pair_at ps) in
            ap (λ g. without t.0 (versions ps' g)) chain_here ∙ (ap (without t.0) (new ∙ (same ∙ map-remove (pair_at ps) L p_place.0))
            ∙ (filter-remove (λ v. not (eqb v.0.0 t.0)) (map (pair_at ps) L) p_place.0 (pair_at ps 0) (omega (arith, in_L, n)) gone ∙ ap (without t.0) (sym old)))

    module _ (last last' : Cell → ℕ) (ends : HasLasts ps chain last) (lasts_are : (y : Cell) → last' y ≡ (if same_cell cell y then last_without (last cell) p a else last y)) where
      -- the last place of the shortened chain
      shorter_end : 0 < (chain cell).len - 1 → last_without (last cell) p a ≡ previous_at ps' (without_place (chain cell) p b).first
      shorter_end more =
          let L = (S.chains cell).thread.places in
          let n = (chain cell).len in
          let fits : p_place.0 < length L = omega (arith, (S.chains cell).thread.count, p_place.1.0) in
          let end : get_or (remove L p_place.0) (n - 2) 0 ≡ previous_at ps' (without_place (chain cell) p b).first =
          ap (λ k. get_or (remove L p_place.0) k 0) (omega arith) ∙ sym (ring-end ps' cell (without_place (chain cell) p b) _ here_shorter more) in
          let was : last cell ≡ get_or L (n - 1) 0 = ends cell (omega (arith, more)) ∙ ring-end ps cell (chain cell) _ (S.chains cell, refl) (omega (arith, more)) in
          elim (cases_eq p_place.0 (n - 1)) [
            | inl e ↦
                let is_p : get_or L (n - 1) 0 ≡ p = ap (λ k. get_or L k 0) (sym e) ∙ p_place.1.1 in
                let back : a ≡ get_or L (n - 2) 0 =
                a_is ∙ (ap (previous_at ps) (sym is_p ∙ ap (λ k. get_or L k 0) (omega (arith, more))) ∙ step_back _ _ _ _ _ (S.chains cell) (n - 2) (omega (arith, more))) in
                chosen (last cell) p _ _ (was ∙ is_p) ∙ (back ∙ (sym (low L p_place.0 fits (n - 2) (omega (arith, more, e))) ∙ end))
            | inr ne ↦
                let apart : last cell ≢ p = λ e. ne ((S.chains cell).thread.distinct p_place.0 (n - 1) p_place.1.0 (omega (arith, more)) (p_place.1.1 ∙ (sym e ∙ was))) in
                passed (last cell) p _ _ apart ∙ (was ∙ (ap (λ k. get_or L k 0) (omega (arith, more)) ∙ (sym (high L p_place.0 fits (n - 2) (omega (arith, ne, p_place.1.0))) ∙ end)))
          ]

      lasts_kept : HasLasts ps' chain' last'
      lasts_kept y more_y = elim (key_cases same_cell same_cell-itself same_cell-exact cell y) [
        | inl e ↦ subst (λ (x : Cell). 0 < (chain' x).len → last' x ≡ previous_at ps' (chain' x).first) e (λ more.
            lasts_are cell ∙ (ap (λ (o : Bool). if o then last_without (last cell) p a else last cell) (same_cell-itself cell)
            ∙ (shorter_end (subst (λ (g : Head). 0 < g.len) chain_here more) ∙ ap (λ (g : Head). previous_at ps' g.first) (sym chain_here)))) more_y
        | inr off ↦
            let ne = key_apart same_cell same_cell-itself same_cell-exact cell y off in
            let old : 0 < (chain y).len = subst (λ (g : Head). 0 < g.len) (chain_else y ne) more_y in
            lasts_are y ∙ (ap (λ (o : Bool). if o then last_without (last cell) p a else last y) off
            ∙ (ends y old ∙ (same-end ps ps' y (chain y) _ (S.chains y, refl) (other_chain y ne) old ∙ ap (λ (g : Head). previous_at ps' g.first) (sym (chain_else y ne)))))
      ]

    is_freed : IsFreed ps ps' chain chain' own own' more_free t cell p a
    is_freed = record { linked = freed; fewer = omega (arith, ap (λ (h : Head). h.len) own_here, some); kept = without_kept; lasts = lasts_kept }

-- the same if the writer's head was read before
pub freeing : (ps ps' : List Place) (chain chain' : Cell → Head) (own own' : Txn → Head) (unused : Head) (S : Linked ps chain own unused) (cell : Cell) (t : Txn) (h : Head)
    → h ≡ own t → 0 < (own t).len → cell_in (slot_at ps h.first) ≡ Some cell → length ps' ≡ length ps
    → ((r : ℕ) → next_at ps' r ≡ (if r == previous_at ps h.first then next_at ps h.first else next_at ps r))
    → ((r : ℕ) → previous_at ps' r ≡ (if r == next_at ps h.first then previous_at ps h.first else previous_at ps r))
    → ((r : ℕ) → slot_at ps' r ≡ (if r == h.first then record { version = None; sibling = unused.first } else slot_at ps r))
    → ((y : Cell) → chain' y ≡ (if same_cell cell y then without_place (chain cell) h.first (next_at ps h.first) else chain y))
    → ((u : Txn) → own' u ≡ (if same_txn t u then record { first = sibling_at ps h.first; len = h.len - 1 } else own u))
    → IsFreed ps ps' chain chain' own own' (record { first = h.first; len = unused.len + 1 }) t cell h.first (previous_at ps h.first)
freeing ps ps' chain chain' own own' unused S cell t h h_is some holds len next previous slots chains owners =
    is_freed ps ps' chain chain' own own' unused S cell t h.first _ _ (ap (λ (z : Head). z.first) h_is) some holds refl refl len next previous slots chains
    (subst (λ (n : ℕ). (u : Txn) → own' u ≡ (if same_txn t u then record { first = sibling_at ps h.first; len = n - 1 } else own u)) (ap (λ (z : Head). z.len) h_is) owners)
