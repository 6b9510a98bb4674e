-- Putting a version into the first free place keeps the links sound and inserts it in its chain at its index.
use Rattle.std.proofs.Common.{true, Bool, ◌≡◌, ◌==◌, ℕ, ◌+◌, ◌-◌, ◌<◌, ◌≤◌, ◌≢◌, ◌⊎◌, List, length, get_or, map, refl, sym, ◌∙◌, ap, subst, inl, inr, arith, if◌then◌else◌, Some}
use Rattle.std.specs.List.{insert}
use Rattle.std.proofs.lemmas.Bool.{cases_eq, cases_lt}
use Rattle.teb_rules.specs.declared.names.Cell.{Cell}
use Rattle.teb_rules.specs.declared.names.Txn.{Txn}
use Rattle.teb_rules.specs.names.Cells.{same_cell}
use Rattle.version_chain.proofs.Cells.{same_cell-itself, same_cell-exact}
use Rattle.chain_pool.specs.declared.places.Version.{Version as Stored}
use Rattle.chain_pool.specs.declared.places.Place.{Place}
use Rattle.chain_pool.specs.declared.places.Head.{Head}
use Rattle.chain_pool.specs.Threads.{Thread, Ring}
use Rattle.chain_pool.specs.Places.{Slot, slot_at, next_at, previous_at, sibling_at, cell_in, writer_in, pair_in, pair_at, InChain, IsOwned, IsFree}
use Rattle.chain_pool.specs.Heads.{same_txn}
use Rattle.chain_pool.specs.Linked.{Linked, HasLasts, versions, nth_place}
use Rattle.chain_pool.proofs.Keys.{same_txn-itself, same_txn-exact, key_cases, key_apart, key_other}
use Rattle.chain_pool.proofs.Threads.{here, above, thread-insert, thread-remove, thread-keep}
use Rattle.chain_pool.proofs.Rings.{ring-insert, ring-keep, ring-one, places-ring-insert, places-ring-one, places-ring-keep, mine_first, mine_previous, steps-at, steps-end}
use Rattle.chain_pool.proofs.Slots.{chosen, passed, map-insert, map-agree, RingWith, ring-versions, ring-end, same-end, one_chain, one_owner, free_chain}
use Rattle.chain_pool.proofs.Slots.{free_owned, slot_here, slot_else, pair_else, chain_kept, chain_was, owned_kept, owned_was, free_kept, free_was}

-- the state after the version is placed
pub record IsPlaced (ps ps' : List Place) (chain chain' : Cell → Head) (own' : Txn → Head) (unused' : Head) (v : Stored) (i q : ℕ) : Type 0 where
  pub linked : Linked ps' chain' own' unused'
  pub here : versions ps' (chain' v.cell) ≡ insert (versions ps (chain v.cell)) i (v.writer, v.value)
  pub elsewhere : (y : Cell) → v.cell ≢ y → versions ps' (chain' y) ≡ versions ps (chain y)
  pub lasts : (last last' : Cell → ℕ) → HasLasts ps chain last → ((y : Cell) → last' y ≡ (if same_cell v.cell y then (if i == (chain v.cell).len then q else last v.cell) else last y))
      → HasLasts ps' chain' last'

-- the version v goes into the free place q, between a and b, as element i of its chain
module _ (ps ps' : List Place) (chain chain' : Cell → Head) (own own' : Txn → Head) (unused : Head) (S : Linked ps chain own unused)
    (v : Stored) (i q a b : ℕ)
    (q_is : q ≡ unused.first) (some_free : 0 < unused.len) (within : i ≤ (chain v.cell).len)
    (alone : (chain v.cell).len ≡ 0 → (a ≡ q) × (b ≡ q))
    (a_is : 0 < (chain v.cell).len → a ≡ previous_at ps b)
    (b_at : i < (chain v.cell).len → b ≡ get_or (S.chains v.cell).thread.places i 0)
    (b_end : 0 < (chain v.cell).len → i ≡ (chain v.cell).len → b ≡ (chain v.cell).first)
    (absent : (p : ℕ) → InChain ps v.cell p → IsOwned ps v.writer p → ⊥)
    (len : length ps' ≡ length ps) where
  abbrev pub put_slot : Slot
  put_slot = record { version = Some v; sibling = (own v.writer).first }

  abbrev pub longer_chain : Head
  longer_chain = record { first = (if i == 0 then q else (chain v.cell).first); len = (chain v.cell).len + 1 }

  abbrev pub longer_own : Head
  longer_own = record { first = q; len = (own v.writer).len + 1 }

  abbrev pub fewer_free : Head
  fewer_free = record { first = sibling_at ps q; len = unused.len - 1 }

  module _ (next : (r : ℕ) → next_at ps' r ≡ (if r == a then q else if r == q then b else next_at ps r))
      (previous : (r : ℕ) → previous_at ps' r ≡ (if r == b then q else if r == q then a else previous_at ps r))
      (slots : (r : ℕ) → slot_at ps' r ≡ (if r == q then put_slot else slot_at ps r))
      (chains_are : (y : Cell) → chain' y ≡ (if same_cell v.cell y then longer_chain else chain y))
      (owners_are : (u : Txn) → own' u ≡ (if same_txn v.writer u then longer_own else own u)) where
    q_free : IsFree ps q
    q_free = subst (IsFree ps) (sym (q_is ∙ S.frees.head some_free)) (S.frees.inside 0 some_free)

    chain_not_q : (x : Cell) (p : ℕ) → InChain ps x p → p ≢ q
    chain_not_q x p m e = free_chain ps q x q_free (subst (InChain ps x) e m)

    owned_not_q : (u : Txn) (p : ℕ) → IsOwned ps u p → p ≢ q
    owned_not_q u p m e = free_owned ps q u q_free (subst (IsOwned ps u) e m)

    sh : slot_at ps' q ≡ put_slot
    sh = slot_here ps ps' q put_slot len slots

    now_chain : InChain ps' v.cell q
    now_chain = record { within = omega (arith, q_free.within, len); is_mine = ap cell_in sh }

    now_owned : IsOwned ps' v.writer q
    now_owned = record { within = omega (arith, q_free.within, len); is_mine = ap writer_in sh }

    kept : (x : Cell) (p : ℕ) → InChain ps x p → InChain ps' x p
    kept x p m = chain_kept ps ps' q put_slot len slots x p (chain_not_q x p m) m

    only : (x : Cell) (p : ℕ) → InChain ps' x p → (InChain ps x p) ⊎ (p ≡ q)
    only x p m = elim (cases_eq p q) [ inl e ↦ inr e | inr ne ↦ inl (chain_was ps ps' q put_slot len slots x p ne m) ]

    next_else : (p : ℕ) → p ≢ a → p ≢ q → next_at ps' p ≡ next_at ps p
    next_else p na nq = next p ∙ (passed p a _ _ na ∙ passed p q _ _ nq)

    previous_else : (p : ℕ) → p ≢ b → p ≢ q → previous_at ps' p ≡ previous_at ps p
    previous_else p nb nq = previous p ∙ (passed p b _ _ nb ∙ passed p q _ _ nq)

    next_a : next_at ps' a ≡ q
    next_a = next a ∙ chosen a a _ _ refl

    previous_b : previous_at ps' b ≡ q
    previous_b = previous b ∙ chosen b b _ _ refl

    b_mine : 0 < (chain v.cell).len → InChain ps v.cell b
    b_mine some = elim (cases_lt i (chain v.cell).len) [
      | inl lt ↦ subst (InChain ps v.cell) (sym (b_at lt)) ((S.chains v.cell).thread.inside i lt)
      | inr ge ↦ subst (InChain ps v.cell) (sym (b_end some (omega (arith, ge, within)))) (mine_first _ _ _ _ _ (S.chains v.cell) some)
    ]

    a_mine : 0 < (chain v.cell).len → InChain ps v.cell a
    a_mine some = subst (InChain ps v.cell) (sym (a_is some)) (mine_previous _ _ _ _ _ (S.chains v.cell) b (b_mine some))

    previous_q : q ≢ b → previous_at ps' q ≡ a
    previous_q ne = previous q ∙ (passed q b _ _ ne ∙ chosen q q _ _ refl)

    next_q : q ≢ a → next_at ps' q ≡ b
    next_q ne = next q ∙ (passed q a _ _ ne ∙ chosen q q _ _ refl)

    b_not_q : 0 < (chain v.cell).len → q ≢ b
    b_not_q some e = chain_not_q v.cell b (b_mine some) (sym e)

    a_not_q : 0 < (chain v.cell).len → q ≢ a
    a_not_q some e = chain_not_q v.cell a (a_mine some) (sym e)

    here_chain : RingWith (InChain ps' v.cell) (next_at ps') (previous_at ps') longer_chain (insert (S.chains v.cell).thread.places i q)
    here_chain =
        let fresh : InChain ps v.cell q → ⊥ = λ m. chain_not_q v.cell q m refl in
        let start : i ≡ 0 → longer_chain.first ≡ q = λ z. chosen i 0 _ _ z in
        let stay : 0 < i → longer_chain.first ≡ (chain v.cell).first = λ lo. passed i 0 _ _ (λ z. absurd (omega (arith, z, lo))) in
        elim (cases_eq (chain v.cell).len 0) [
          | inl z ↦
              let ab = alone z in
              let nq : next_at ps' q ≡ q = next q ∙ chosen q a _ _ (sym ab.0) in
              let pq : previous_at ps' q ≡ q = previous q ∙ chosen q b _ _ (sym ab.1) in
              let at_start : i ≡ 0 = omega (arith, within, z) in (
                ring-one _ _ _ _ _ _ _ _ (S.chains v.cell) z q i within fresh now_chain (kept v.cell) (only v.cell) nq pq longer_chain.first (start at_start),
                places-ring-one _ _ _ _ _ _ _ _ (S.chains v.cell) z q i within fresh now_chain (kept v.cell) (only v.cell) nq pq longer_chain.first (start at_start),
              )
          | inr nz ↦
              let some : 0 < (chain v.cell).len = omega (arith, nz) in (
                ring-insert _ _ _ _ _ _ _ _ (S.chains v.cell) q i a b within some fresh now_chain (kept v.cell) (only v.cell) b_at (b_end some) (a_is some) next_a (next_q (a_not_q some)) next_else
                    previous_b (previous_q (b_not_q some)) previous_else longer_chain.first start stay,
                places-ring-insert _ _ _ _ _ _ _ _ (S.chains v.cell) q i a b within some fresh now_chain (kept v.cell) (only v.cell) b_at (b_end some) (a_is some) next_a
                    (next_q (a_not_q some)) next_else previous_b (previous_q (b_not_q some)) previous_else longer_chain.first start stay,
              )
        ]

    not_neighbour : (p : ℕ) (y : Cell) → v.cell ≢ y → InChain ps y p → (p ≢ a) × (p ≢ b)
    not_neighbour p y ne m = elim (cases_eq (chain v.cell).len 0) [
      | inl z ↦ let ab = alone z in ((λ e. chain_not_q y p m (e ∙ ab.0)), (λ e. chain_not_q y p m (e ∙ ab.1)))
      | inr nz ↦
          let some : 0 < (chain v.cell).len = omega (arith, nz) in
          ((λ e. ne (one_chain ps a v.cell y (a_mine some) (subst (InChain ps y) e m))), (λ e. ne (one_chain ps b v.cell y (b_mine some) (subst (InChain ps y) e m))))
    ]

    other_only : (y : Cell) → v.cell ≢ y → (p : ℕ) → InChain ps' y p → InChain ps y p
    other_only y ne p m = elim (only y p m) [ inl old ↦ old | inr e ↦ absurd (ne (one_chain ps' q v.cell y now_chain (subst (InChain ps' y) e m))) ]

    other_chain : (y : Cell) → v.cell ≢ y → RingWith (InChain ps' y) (next_at ps') (previous_at ps') (chain y) (S.chains y).thread.places
    other_chain y ne =
        let same : (p : ℕ) → InChain ps y p → next_at ps' p ≡ next_at ps p = λ p m. next_else p (not_neighbour p y ne m).0 (chain_not_q y p m) in
        let same_back : (p : ℕ) → InChain ps y p → previous_at ps' p ≡ previous_at ps p = λ p m. previous_else p (not_neighbour p y ne m).1 (chain_not_q y p m) in
        (ring-keep _ _ _ _ _ _ _ _ (S.chains y) (kept y) (other_only y ne) same same_back, places-ring-keep _ _ _ _ _ _ _ _ (S.chains y) (kept y) (other_only y ne) same same_back)

    sibling_else : (r : ℕ) → r ≢ q → sibling_at ps' r ≡ sibling_at ps r
    sibling_else r ne = ap (λ (z : Slot). z.sibling) (slot_else ps ps' q put_slot len slots r ne)

    here_owned : Thread (IsOwned ps' v.writer) (sibling_at ps') q ((own v.writer).len + 1)
    here_owned = thread-insert (IsOwned ps v.writer) (IsOwned ps' v.writer) (sibling_at ps) (sibling_at ps') _ _ (S.owners v.writer) q 0 (omega arith)
        (λ m. owned_not_q v.writer q m refl) now_owned (λ p m. owned_kept ps ps' q put_slot len slots v.writer p (owned_not_q v.writer p m) m)
        (λ p m. elim (cases_eq p q) [ inl e ↦ inr e | inr ne ↦ inl (owned_was ps ps' q put_slot len slots v.writer p ne m) ])
        (λ lo. absurd (omega (arith, lo)))
        (λ lo. ap (λ (z : Slot). z.sibling) sh ∙ (S.owners v.writer).head lo)
        (λ j lt _. sibling_else _ (owned_not_q v.writer _ ((S.owners v.writer).inside j (omega arith))))
        q (λ _. refl) (λ lo. absurd (omega (arith, lo)))

    other_owned : (u : Txn) → v.writer ≢ u → Thread (IsOwned ps' u) (sibling_at ps') (own u).first (own u).len
    other_owned u ne = thread-keep _ _ _ _ _ _ (S.owners u) (λ p m. owned_kept ps ps' q put_slot len slots u p (owned_not_q u p m) m)
        (λ p m. elim (cases_eq p q) [
          | inl e ↦ absurd (ne (one_owner ps' q v.writer u now_owned (subst (IsOwned ps' u) e m)))
          | inr off ↦ owned_was ps ps' q put_slot len slots u p off m
        ])
        (λ p m. sibling_else p (owned_not_q u p m))

    q_at : get_or S.frees.places 0 0 ≡ q
    q_at = sym (q_is ∙ S.frees.head some_free)

    fewer : Thread (IsFree ps') (sibling_at ps') (sibling_at ps q) (unused.len - 1)
    fewer = thread-remove (IsFree ps) (IsFree ps') (sibling_at ps) (sibling_at ps') _ _ S.frees q 0 some_free q_at
        (λ r m ne. free_kept ps ps' q put_slot len slots r ne m)
        (λ r m. let ne : r ≢ q = λ e. free_chain ps' q v.cell (subst (IsFree ps') e m) now_chain in (free_was ps ps' q put_slot len slots r ne m, ne))
        (λ lo. absurd (omega (arith, lo)))
        (λ j lt ne1 ne2. sibling_else _ (λ e. ne2 (S.frees.distinct j 0 (omega arith) some_free (e ∙ sym q_at))))
        (sibling_at ps q) (λ _ more. ap (sibling_at ps) (sym q_at) ∙ S.frees.link 0 (omega arith)) (λ lo. absurd (omega (arith, lo)))

    once' : (x : Cell) (u : Txn) (p r : ℕ) → InChain ps' x p → InChain ps' x r → IsOwned ps' u p → IsOwned ps' u r → p ≡ r
    once' x u p r mp mr op or = elim (cases_eq p q) [
      | inl ep ↦ elim (cases_eq r q) [ inl er ↦ ep ∙ sym er | inr nr ↦ absurd (clash r nr (subst (InChain ps' x) ep mp) mr (subst (IsOwned ps' u) ep op) or) ]
      | inr np ↦ elim (cases_eq r q) [
        | inl er ↦ absurd (clash p np (subst (InChain ps' x) er mr) mp (subst (IsOwned ps' u) er or) op)
        | inr nr ↦ S.once x u p r (chain_was ps ps' q put_slot len slots x p np mp) (chain_was ps ps' q put_slot len slots x r nr mr) (owned_was ps ps' q put_slot len slots u p np op)
            (owned_was ps ps' q put_slot len slots u r nr or)
      ]
    ]
      where
        clash : (k : ℕ) → k ≢ q → InChain ps' x q → InChain ps' x k → IsOwned ps' u q → IsOwned ps' u k → ⊥
        clash k nk mq mk oq ok =
            let ex : x ≡ v.cell = one_chain ps' q x v.cell mq now_chain in
            let et : u ≡ v.writer = one_owner ps' q u v.writer oq now_owned in
            absent k (subst (λ (y : Cell). InChain ps y k) ex (chain_was ps ps' q put_slot len slots x k nk mk))
            (subst (λ (y : Txn). IsOwned ps y k) et (owned_was ps ps' q put_slot len slots u k nk ok))

    chain_here : chain' v.cell ≡ longer_chain
    chain_here = let same : same_cell v.cell v.cell ≡ true = same_cell-itself v.cell in chains_are v.cell ∙ ap (λ (b : Bool). if b then longer_chain else chain v.cell) same

    chain_else : (y : Cell) → v.cell ≢ y → chain' y ≡ chain y
    chain_else y ne = chains_are y ∙ ap (λ (b : Bool). if b then longer_chain else chain y) (key_other same_cell same_cell-itself same_cell-exact v.cell y ne)

    own_here : own' v.writer ≡ longer_own
    own_here = let same : same_txn v.writer v.writer ≡ true = same_txn-itself v.writer in owners_are v.writer ∙ ap (λ (b : Bool). if b then longer_own else own v.writer) same

    own_else : (u : Txn) → v.writer ≢ u → own' u ≡ own u
    own_else u ne = owners_are u ∙ ap (λ (b : Bool). if b then longer_own else own u) (key_other same_txn same_txn-itself same_txn-exact v.writer u ne)

    placed : Linked ps' chain' own' fewer_free
    placed = record {
      chains = λ y. elim (key_cases same_cell same_cell-itself same_cell-exact v.cell y) [
        | inl e ↦ subst (λ (x : Cell). Ring (InChain ps' x) (next_at ps') (previous_at ps') (chain' x).first (chain' x).len) e
            (subst (λ (g : Head). Ring (InChain ps' v.cell) (next_at ps') (previous_at ps') g.first g.len) (sym chain_here) here_chain.0)
        | inr off ↦
            let ne = key_apart same_cell same_cell-itself same_cell-exact v.cell y off in
            subst (λ (g : Head). Ring (InChain ps' y) (next_at ps') (previous_at ps') g.first g.len) (sym (chain_else y ne)) (other_chain y ne).0
      ];
      owners = λ u. elim (key_cases same_txn same_txn-itself same_txn-exact v.writer u) [
        | inl e ↦ subst (λ (x : Txn). Thread (IsOwned ps' x) (sibling_at ps') (own' x).first (own' x).len) e
            (subst (λ (g : Head). Thread (IsOwned ps' v.writer) (sibling_at ps') g.first g.len) (sym own_here) here_owned)
        | inr off ↦
            let ne = key_apart same_txn same_txn-itself same_txn-exact v.writer u off in
            subst (λ (g : Head). Thread (IsOwned ps' u) (sibling_at ps') g.first g.len) (sym (own_else u ne)) (other_owned u ne)
      ];
      frees = fewer;
      short = omega (arith, len, S.short);
      once = once';
    }

    kept_pairs : (y : Cell) → map (pair_at ps') (S.chains y).thread.places ≡ map (pair_at ps) (S.chains y).thread.places
    kept_pairs y = map-agree (pair_at ps') (pair_at ps) _
        (λ j lt. pair_else ps ps' q put_slot len slots _ (chain_not_q y _ ((S.chains y).thread.inside j (omega (arith, (S.chains y).thread.count, lt)))))

    versions_here : versions ps' (chain' v.cell) ≡ insert (versions ps (chain v.cell)) i (v.writer, v.value)
    versions_here =
        let old : versions ps (chain v.cell) ≡ map (pair_at ps) (S.chains v.cell).thread.places = ring-versions ps v.cell (chain v.cell) _ (S.chains v.cell, refl) in
        let new : versions ps' longer_chain ≡ map (pair_at ps') (insert (S.chains v.cell).thread.places i q) = ring-versions ps' v.cell longer_chain _ here_chain in
        let put : pair_at ps' q ≡ (v.writer, v.value) = ap pair_in sh in
        ap (versions ps') chain_here
        ∙ (new ∙ (map-insert (pair_at ps') (S.chains v.cell).thread.places i q
        ∙ (ap (λ l. insert l i (pair_at ps' q)) (kept_pairs v.cell ∙ sym old) ∙ ap (insert (versions ps (chain v.cell)) i) put)))

    versions_else : (y : Cell) → v.cell ≢ y → versions ps' (chain' y) ≡ versions ps (chain y)
    versions_else y ne =
        let old : versions ps (chain y) ≡ map (pair_at ps) (S.chains y).thread.places = ring-versions ps y (chain y) _ (S.chains y, refl) in
        let new : versions ps' (chain y) ≡ map (pair_at ps') (S.chains y).thread.places = ring-versions ps' y (chain y) _ (other_chain y ne) in
        ap (versions ps') (chain_else y ne) ∙ (new ∙ (kept_pairs y ∙ sym old))

    module _ (last last' : Cell → ℕ) (ends : HasLasts ps chain last) (lasts_are : (y : Cell) → last' y ≡ (if same_cell v.cell y then (if i == (chain v.cell).len then q else last v.cell) else last y))
      where
        -- the last place of the lengthened chain
        longer_end : (if i == (chain v.cell).len then q else last v.cell) ≡ previous_at ps' longer_chain.first
        longer_end =
            let L = (S.chains v.cell).thread.places in
            let fits : i ≤ length L = omega (arith, within, (S.chains v.cell).thread.count) in
            let end : get_or (insert L i q) (chain v.cell).len 0 ≡ previous_at ps' longer_chain.first =
            ap (λ k. get_or (insert L i q) k 0) (omega arith) ∙ sym (ring-end ps' v.cell longer_chain _ here_chain (omega arith)) in
            elim (cases_eq i (chain v.cell).len) [
              | inl e ↦ chosen i _ _ _ e ∙ (sym (here L i q fits (chain v.cell).len (sym e)) ∙ end)
              | inr ne ↦
                  let some : 0 < (chain v.cell).len = omega (arith, within, ne) in
                  passed i _ _ _ ne ∙ (ends v.cell some
                  ∙ (ring-end ps v.cell (chain v.cell) _ (S.chains v.cell, refl) some ∙ (sym (above L i q fits (chain v.cell).len (omega (arith, within, ne))) ∙ end)))
            ]

        lasts_kept : HasLasts ps' chain' last'
        lasts_kept y some = elim (key_cases same_cell same_cell-itself same_cell-exact v.cell y) [
          | inl e ↦ subst (λ (x : Cell). last' x ≡ previous_at ps' (chain' x).first) e (
              lasts_are v.cell ∙ (ap (λ (b : Bool). if b then (if i == (chain v.cell).len then q else last v.cell) else last v.cell) (same_cell-itself v.cell)
              ∙ (longer_end ∙ ap (λ (g : Head). previous_at ps' g.first) (sym chain_here)))
              )
          | inr off ↦
              let ne = key_apart same_cell same_cell-itself same_cell-exact v.cell y off in
              let old : 0 < (chain y).len = subst (λ (g : Head). 0 < g.len) (chain_else y ne) some in
              lasts_are y ∙ (ap (λ (b : Bool). if b then (if i == (chain v.cell).len then q else last v.cell) else last y) off
              ∙ (ends y old ∙ (same-end ps ps' y (chain y) _ (S.chains y, refl) (other_chain y ne) old ∙ ap (λ (g : Head). previous_at ps' g.first) (sym (chain_else y ne)))))
        ]

    is_placed : IsPlaced ps ps' chain chain' own' fewer_free v i q
    is_placed = record { linked = placed; here = versions_here; elsewhere = versions_else; lasts = lasts_kept }

-- the same if the two heads were read before: h is the chain's, g the writer's
pub placing : (ps ps' : List Place) (chain chain' : Cell → Head) (own own' : Txn → Head) (unused : Head) (S : Linked ps chain own unused) (v : Stored) (i : ℕ) (two : ℕ × ℕ) (h g : Head)
    → h ≡ chain v.cell → g ≡ own v.writer → 0 < unused.len → i ≤ (chain v.cell).len → ((p : ℕ) → InChain ps v.cell p → IsOwned ps v.writer p → ⊥)
    → (h.len ≡ 0 → (two.0 ≡ unused.first) × (two.1 ≡ unused.first))
    → (0 < h.len → two.0 ≡ previous_at ps two.1)
    → (0 < h.len → two.1 ≡ nth_place ps h i)
    → length ps' ≡ length ps
    → ((r : ℕ) → next_at ps' r ≡ (if r == two.0 then unused.first else if r == unused.first then two.1 else next_at ps r))
    → ((r : ℕ) → previous_at ps' r ≡ (if r == two.1 then unused.first else if r == unused.first then two.0 else previous_at ps r))
    → ((r : ℕ) → slot_at ps' r ≡ (if r == unused.first then record { version = Some v; sibling = g.first } else slot_at ps r))
    → ((y : Cell) → chain' y ≡ (if same_cell v.cell y then record { first = (if i == 0 then unused.first else h.first); len = h.len + 1 } else chain y))
    → ((u : Txn) → own' u ≡ (if same_txn v.writer u then record { first = unused.first; len = g.len + 1 } else own u))
    → IsPlaced ps ps' chain chain' own' (record { first = sibling_at ps unused.first; len = unused.len - 1 }) v i unused.first
placing ps ps' chain chain' own own' unused S v i two h g h_is g_is some within absent alone before after len next previous slots chains owners =
    let last = subst (λ (z : Head). 0 < z.len → two.1 ≡ nth_place ps z i) h_is after in
    is_placed ps ps' chain chain' own own' unused S v i unused.first two.0 two.1 refl some within
    (subst (λ (z : Head). z.len ≡ 0 → (two.0 ≡ unused.first) × (two.1 ≡ unused.first)) h_is alone)
    (subst (λ (z : Head). 0 < z.len → two.0 ≡ previous_at ps two.1) h_is before)
    (λ lt. last (omega (arith, lt)) ∙ steps-at _ _ _ _ _ (S.chains v.cell) i lt)
    (λ lt e. last lt ∙ steps-end (previous_at ps) _ _ i e)
    absent len next previous
    (subst (λ (z : Head). (r : ℕ) → slot_at ps' r ≡ (if r == unused.first then record { version = Some v; sibling = z.first } else slot_at ps r)) g_is slots)
    (subst (λ (z : Head). (y : Cell) → chain' y ≡ (if same_cell v.cell y then record { first = (if i == 0 then unused.first else z.first); len = z.len + 1 } else chain y)) h_is chains)
    (subst (λ (z : Head). (u : Txn) → own' u ≡ (if same_txn v.writer u then record { first = unused.first; len = z.len + 1 } else own u)) g_is owners)
