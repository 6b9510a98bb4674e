-- One more place, which is free, when no other is free: the links stay sound, and the chains are unchanged.
use Rattle.std.proofs.Common.{◌≡◌, ℕ, zero, suc, ◌+◌, ◌^◌, ◌<◌, ◌≢◌, ◌⊎◌, List, [], ◌∷◌, ◌++◌, length, get_or, refl, sym, ◌∙◌, ap, subst, inl, inr, arith, length-append}
use Rattle.std.proofs.lemmas.Bool.{cases_eq, cases_lt}
use Rattle.teb_rules.specs.declared.names.Cell.{Cell}
use Rattle.teb_rules.specs.declared.names.Txn.{Txn}
use Rattle.chain_pool.specs.declared.places.Place.{Place}
use Rattle.chain_pool.specs.declared.places.Head.{Head}
use Rattle.chain_pool.specs.Threads.{Thread}
use Rattle.chain_pool.specs.Places.{blank, slot_of, next_at, previous_at, sibling_at, cell_in, writer_in, pair_in, pair_at, InChain, IsOwned, IsFree}
use Rattle.chain_pool.specs.Linked.{Linked, HasLasts, versions}
use Rattle.chain_pool.proofs.Threads.{thread-insert, thread-keep}
use Rattle.chain_pool.proofs.Rings.{ring-keep, places-ring-keep}
use Rattle.chain_pool.proofs.Slots.{RingWith, ring-versions, same-end, map-agree, free_chain, free_owned}

-- the element at a place of the longer list
pushed_low : (ps : List Place) (b d : Place) (r : ℕ) → r < length ps → get_or (ps ++ b ∷ []) r d ≡ get_or ps r d
pushed_low [] b d r lt = absurd (omega (arith, lt))
pushed_low (p ∷ ps) b d zero lt = refl
pushed_low (p ∷ ps) b d (suc r) lt = pushed_low ps b d r (omega (arith, lt))

pushed_high : (ps : List Place) (b d : Place) (r : ℕ) → length ps < r → get_or (ps ++ b ∷ []) r d ≡ get_or ps r d
pushed_high [] b d zero lt = absurd (omega (arith, lt))
pushed_high [] b d (suc r) lt = refl
pushed_high (p ∷ ps) b d zero lt = absurd (omega (arith, lt))
pushed_high (p ∷ ps) b d (suc r) lt = pushed_high ps b d r (omega (arith, lt))

pushed_at : (ps : List Place) (b d : Place) → get_or (ps ++ b ∷ []) (length ps) d ≡ b
pushed_at [] b d = refl
pushed_at (p ∷ ps) b d = pushed_at ps b d

module _ (ps ps' : List Place) (chain : Cell → Head) (own : Txn → Head) (unused : Head) (S : Linked ps chain own unused) (q : ℕ)
    (made : ps' ≡ ps ++ blank ∷ []) (q_is : q ≡ length ps) (none : unused.len ≡ 0) (short : length ps + 1 < 2 ^ 32) where
  len : length ps' ≡ length ps + 1
  len = ap length made ∙ length-append ps (blank ∷ [])

  other : (r : ℕ) → r ≢ q → get_or ps' r blank ≡ get_or ps r blank
  other r ne = ap (λ l. get_or l r blank) made ∙ elim (cases_lt r (length ps)) [
    | inl lt ↦ pushed_low ps blank blank r lt
    | inr ge ↦ pushed_high ps blank blank r (omega (arith, ge, ne, q_is))
  ]

  here : get_or ps' q blank ≡ blank
  here = ap (λ l. get_or l q blank) made ∙ (ap (λ r. get_or (ps ++ blank ∷ []) r blank) q_is ∙ pushed_at ps blank blank)

  old_place : (p : ℕ) → p < length ps → p ≢ q
  old_place p lt e = omega (arith, lt, e, q_is)

  q_free : IsFree ps' q
  q_free = record { within = omega (arith, len, q_is); free = ap (λ (p : Place). (slot_of p).version) here }

  chain_kept : (x : Cell) (p : ℕ) → InChain ps x p → InChain ps' x p
  chain_kept x p m = record { within = omega (arith, m.within, len); is_mine = ap (λ (z : Place). cell_in (slot_of z)) (other p (old_place p m.within)) ∙ m.is_mine }

  owned_kept : (t : Txn) (p : ℕ) → IsOwned ps t p → IsOwned ps' t p
  owned_kept t p m = record { within = omega (arith, m.within, len); is_mine = ap (λ (z : Place). writer_in (slot_of z)) (other p (old_place p m.within)) ∙ m.is_mine }

  chain_was : (x : Cell) (p : ℕ) → InChain ps' x p → InChain ps x p
  chain_was x p m =
      let ne : p ≢ q = λ e. free_chain ps' q x q_free (subst (InChain ps' x) e m) in
      record { within = omega (arith, m.within, len, ne, q_is); is_mine = ap (λ (z : Place). cell_in (slot_of z)) (sym (other p ne)) ∙ m.is_mine }

  owned_was : (t : Txn) (p : ℕ) → IsOwned ps' t p → IsOwned ps t p
  owned_was t p m =
      let ne : p ≢ q = λ e. free_owned ps' q t q_free (subst (IsOwned ps' t) e m) in
      record { within = omega (arith, m.within, len, ne, q_is); is_mine = ap (λ (z : Place). writer_in (slot_of z)) (sym (other p ne)) ∙ m.is_mine }

  chain_with : (x : Cell) → RingWith (InChain ps' x) (next_at ps') (previous_at ps') (chain x) (S.chains x).thread.places
  chain_with x =
      let same : (p : ℕ) → InChain ps x p → next_at ps' p ≡ next_at ps p = λ p m. ap (λ (z : Place). z.next) (other p (old_place p m.within)) in
      let same_back : (p : ℕ) → InChain ps x p → previous_at ps' p ≡ previous_at ps p = λ p m. ap (λ (z : Place). z.previous) (other p (old_place p m.within)) in
      (ring-keep _ _ _ _ _ _ _ _ (S.chains x) (chain_kept x) (chain_was x) same same_back, places-ring-keep _ _ _ _ _ _ _ _ (S.chains x) (chain_kept x) (chain_was x) same same_back)

  free_kept : (p : ℕ) → IsFree ps p → IsFree ps' p
  free_kept p m = record { within = omega (arith, m.within, len); free = ap (λ (z : Place). (slot_of z).version) (other p (old_place p m.within)) ∙ m.free }

  free_was : (p : ℕ) → IsFree ps' p → (IsFree ps p) ⊎ (p ≡ q)
  free_was p m = elim (cases_eq p q) [
    | inl e ↦ inr e
    | inr ne ↦ inl (record { within = omega (arith, m.within, len, ne, q_is); free = ap (λ (z : Place). (slot_of z).version) (sym (other p ne)) ∙ m.free })
  ]

  one_free : Thread (IsFree ps') (sibling_at ps') q (unused.len + 1)
  one_free = thread-insert (IsFree ps) (IsFree ps') (sibling_at ps) (sibling_at ps') _ _ S.frees q 0 (omega arith)
      (λ m. omega (arith, m.within, q_is)) q_free free_kept free_was
      (λ lo. absurd (omega (arith, lo)))
      (λ lo. absurd (omega (arith, lo, none)))
      (λ j lt _. absurd (omega (arith, lt, none)))
      q (λ _. refl) (λ lo. absurd (omega (arith, lo)))

  pub grown : Linked ps' chain own (record { first = q; len = 1 })
  grown = record {
    chains = λ x. (chain_with x).0;
    owners = λ t. thread-keep _ _ _ _ _ _ (S.owners t) (owned_kept t) (owned_was t) (λ p m. ap (λ (z : Place). (slot_of z).sibling) (other p (old_place p m.within)));
    frees = subst (Thread (IsFree ps') (sibling_at ps') q) (omega (arith, none)) one_free;
    short = omega (arith, len, short);
    once = λ x t p r mp mr op or. S.once x t p r (chain_was x p mp) (chain_was x r mr) (owned_was t p op) (owned_was t r or);
  }

  pub grown_lasts : (last : Cell → ℕ) → HasLasts ps chain last → HasLasts ps' chain last
  grown_lasts last ends x some = ends x some ∙ same-end ps ps' x (chain x) _ (S.chains x, refl) (chain_with x) some

  pub grown_versions : (x : Cell) → versions ps' (chain x) ≡ versions ps (chain x)
  grown_versions x = ring-versions ps' x (chain x) _ (chain_with x)
      ∙ (map-agree (pair_at ps') (pair_at ps) _
      (λ j lt. ap (λ (z : Place). pair_in (slot_of z)) (other _ (λ e. let m = (S.chains x).thread.inside j (omega (arith, (S.chains x).thread.count, lt)) in omega (arith, m.within, e, q_is))))
      ∙ sym (ring-versions ps x (chain x) _ (S.chains x, refl)))
