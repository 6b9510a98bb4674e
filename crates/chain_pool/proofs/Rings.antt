-- The effect of an edit of the links on a ring.
use Rattle.std.proofs.Common.{◌≡◌, ℕ, zero, suc, ◌+◌, ◌-◌, ◌<◌, ◌≤◌, ◌≢◌, ◌⊎◌, length, get_or, refl, sym, ◌∙◌, ap, subst, inl, inr, arith}
use Rattle.std.specs.List.{insert, remove}
use Rattle.std.proofs.lemmas.Bool.{cases_lt, cases_eq}
use Rattle.chain_pool.specs.Threads.{Thread, Ring, steps}
use Rattle.chain_pool.proofs.Threads.{above, here, high, low, thread-insert, thread-remove, thread-keep}

-- one step of a ring
module _ (mine : ℕ → Type 0) (next previous : ℕ → ℕ) (first len : ℕ) (r : Ring mine next previous first len) where
  pub step_back : (j : ℕ) → j + 1 < len → previous (get_or r.thread.places (j + 1) 0) ≡ get_or r.thread.places j 0
  step_back j lt = ap previous (sym (r.thread.link j lt)) ∙ r.back _ (r.thread.inside j (omega arith))

  pub last_place : 0 < len → previous first ≡ get_or r.thread.places (len - 1) 0
  last_place some = ap previous (sym (r.closes some)) ∙ r.back _ (r.thread.inside (len - 1) (omega arith))

  pub mine_first : 0 < len → mine first
  mine_first some = subst mine (sym (r.thread.head some)) (r.thread.inside 0 some)

  pub mine_next : (p : ℕ) → mine p → mine (next p)
  mine_next p m = let at = r.thread.complete p m in elim (cases_lt (at.0 + 1) len) [
    | inl lt ↦ subst mine (sym (r.thread.link at.0 lt) ∙ ap next at.1.1) (r.thread.inside (at.0 + 1) lt)
    | inr ge ↦
        let last : at.0 ≡ len - 1 = omega (arith, at.1.0) in
        subst mine (sym (r.closes (omega (arith, at.1.0))) ∙ ap next (ap (λ k. get_or r.thread.places k 0) (sym last) ∙ at.1.1)) (mine_first (omega (arith, at.1.0)))
  ]

  pub mine_previous : (p : ℕ) → mine p → mine (previous p)
  mine_previous p m = let at = r.thread.complete p m in elim (cases_eq at.0 0) [
    | inl z ↦ subst mine (sym (last_place (omega (arith, at.1.0))) ∙ ap previous (r.thread.head (omega (arith, at.1.0)) ∙ (ap (λ k. get_or r.thread.places k 0) (sym z) ∙ at.1.1)))
        (r.thread.inside (len - 1) (omega (arith, at.1.0)))
    | inr nz ↦ subst mine (sym (step_back (at.0 - 1) (omega (arith, at.1.0))) ∙ ap previous (ap (λ k. get_or r.thread.places k 0) (omega arith) ∙ at.1.1))
        (r.thread.inside (at.0 - 1) (omega (arith, at.1.0)))
  ]

pub ring-keep : (mine mine' : ℕ → Type 0) (next next' previous previous' : ℕ → ℕ) (first len : ℕ) (r : Ring mine next previous first len)
    → ((p : ℕ) → mine p → mine' p) → ((p : ℕ) → mine' p → mine p) → ((p : ℕ) → mine p → next' p ≡ next p) → ((p : ℕ) → mine p → previous' p ≡ previous p) → Ring mine' next' previous' first len
unfolding thread-keep
ring-keep mine mine' next next' previous previous' first len r kept only same same_back = record {
  thread = thread-keep mine mine' next next' first len r.thread kept only same;
  closes = λ some. same _ (r.thread.inside (len - 1) (omega arith)) ∙ r.closes some;
  back = λ p m. ap previous' (same p (only p m)) ∙ same_back _ (mine_next mine next previous first len r p (only p m)) ∙ r.back p (only p m);
}

pub places-ring-keep : (mine mine' : ℕ → Type 0) (next next' previous previous' : ℕ → ℕ) (first len : ℕ) (r : Ring mine next previous first len)
    (kept : (p : ℕ) → mine p → mine' p) (only : (p : ℕ) → mine' p → mine p) (same : (p : ℕ) → mine p → next' p ≡ next p) (same_back : (p : ℕ) → mine p → previous' p ≡ previous p)
    → (ring-keep mine mine' next next' previous previous' first len r kept only same same_back).thread.places ≡ r.thread.places
unfolding ring-keep thread-keep
places-ring-keep mine mine' next next' previous previous' first len r kept only same same_back = refl

-- an empty ring becomes a ring of one place
module _ (mine mine' : ℕ → Type 0) (next next' previous previous' : ℕ → ℕ) (first len : ℕ) (r : Ring mine next previous first len) (none : len ≡ 0) (q i : ℕ) (within : i ≤ len)
    (fresh : mine q → ⊥) (now : mine' q) (kept : (p : ℕ) → mine p → mine' p) (only : (p : ℕ) → mine' p → (mine p) ⊎ (p ≡ q))
    (next_q : next' q ≡ q) (previous_q : previous' q ≡ q) (first' : ℕ) (first_is : first' ≡ q) where
  alone : (p : ℕ) → mine' p → p ≡ q
  alone p m = elim (only p m) [ inl old ↦ let at = r.thread.complete p old in absurd (omega (arith, at.1.0)) | inr e ↦ e ]

  first_thread : Thread mine' next' first' (len + 1)
  first_thread = thread-insert mine mine' next next' first len r.thread q i within fresh now kept only (λ lt. absurd (omega (arith, lt))) (λ lt. absurd (omega (arith, lt)))
      (λ j lt _. absurd (omega (arith, lt))) first' (λ _. first_is) (λ lt. absurd (omega (arith, lt)))

  pub ring-one : Ring mine' next' previous' first' (len + 1)
  ring-one = record {
    thread = first_thread;
    closes = λ some. ap next' (alone _ (first_thread.inside (len + 1 - 1) (omega arith))) ∙ (next_q ∙ sym first_is);
    back = λ p m. let e = alone p m in ap (λ k. previous' (next' k)) e ∙ (ap previous' next_q ∙ (previous_q ∙ sym e));
  }

  pub places-ring-one : ring-one.thread.places ≡ insert r.thread.places i q
  unfolding ring-one first_thread thread-insert
  places-ring-one = refl

-- q is inserted before element i, between a and b
module _ (mine mine' : ℕ → Type 0) (next next' previous previous' : ℕ → ℕ) (first len : ℕ) (r : Ring mine next previous first len) (q i a b : ℕ) (within : i ≤ len) (some : 0 < len)
    (fresh : mine q → ⊥) (now : mine' q) (kept : (p : ℕ) → mine p → mine' p) (only : (p : ℕ) → mine' p → (mine p) ⊎ (p ≡ q))
    (b_at : i < len → b ≡ get_or r.thread.places i 0) (b_end : i ≡ len → b ≡ first) (a_is : a ≡ previous b)
    (next_a : next' a ≡ q) (next_q : next' q ≡ b) (next_else : (p : ℕ) → p ≢ a → p ≢ q → next' p ≡ next p)
    (previous_b : previous' b ≡ q) (previous_q : previous' q ≡ a) (previous_else : (p : ℕ) → p ≢ b → p ≢ q → previous' p ≡ previous p) where
  a_inner : 0 < i → a ≡ get_or r.thread.places (i - 1) 0
  a_inner lo = elim (cases_lt i len) [
    | inl lt ↦ a_is ∙ ap previous (b_at lt ∙ ap (λ k. get_or r.thread.places k 0) (omega arith)) ∙ step_back mine next previous first len r (i - 1) (omega arith)
    | inr ge ↦ a_is ∙ ap previous (b_end (omega arith)) ∙ last_place mine next previous first len r some ∙ ap (λ k. get_or r.thread.places k 0) (omega arith)
  ]

  a_outer : i ≡ 0 → a ≡ get_or r.thread.places (len - 1) 0
  a_outer e = a_is ∙ ap previous (b_at (omega arith) ∙ ap (λ k. get_or r.thread.places k 0) e ∙ sym (r.thread.head some)) ∙ last_place mine next previous first len r some

  not_q : (p : ℕ) → mine p → p ≢ q
  not_q p m e = fresh (subst mine e m)

  not_a : (j : ℕ) → j < len → (0 < i → j ≢ i - 1) → (i ≡ 0 → j ≢ len - 1) → get_or r.thread.places j 0 ≢ a
  not_a j lt inner outer e = elim (cases_eq i 0) [
    | inl z ↦ outer z (r.thread.distinct j (len - 1) lt (omega arith) (e ∙ a_outer z))
    | inr nz ↦ inner (omega arith) (r.thread.distinct j (i - 1) lt (omega arith) (e ∙ a_inner (omega arith)))
  ]

  next_same : (j : ℕ) → j < len → (0 < i → j ≢ i - 1) → (i ≡ 0 → j ≢ len - 1) → next' (get_or r.thread.places j 0) ≡ next (get_or r.thread.places j 0)
  next_same j lt inner outer = next_else _ (not_a j lt inner outer) (not_q _ (r.thread.inside j lt))

  module _ (first' : ℕ) (new_first : i ≡ 0 → first' ≡ q) (old_first : 0 < i → first' ≡ first) where
    longer : Thread mine' next' first' (len + 1)
    longer = thread-insert mine mine' next next' first len r.thread q i within fresh now kept only
        (λ lo. ap next' (sym (a_inner lo)) ∙ next_a)
        (λ lt. next_q ∙ b_at lt)
        (λ j lt ne. next_same j (omega arith) (λ lo. omega arith) (λ z. omega arith))
        first' new_first old_first

    closes' : next' (get_or (insert r.thread.places i q) len 0) ≡ first'
    closes' = let u : i ≤ length r.thread.places = omega (arith, r.thread.count) in elim (cases_lt i len) [
      | inl lt ↦ ap next' (above r.thread.places i q u len lt) ∙ elim (cases_eq i 0) [
        | inl z ↦ ap next' (sym (a_outer z)) ∙ (next_a ∙ sym (new_first z))
        | inr nz ↦ next_same (len - 1) (omega arith) (λ lo. omega arith) (λ z. absurd (nz z)) ∙ (r.closes some ∙ sym (old_first (omega arith)))
      ]
      | inr ge ↦ ap next' (here r.thread.places i q u len (omega arith)) ∙ (next_q ∙ (b_end (omega arith) ∙ sym (old_first (omega arith))))
    ]

    back_old : (p : ℕ) → mine p → previous' (next' p) ≡ p
    back_old p m = elim (cases_eq p a) [
      | inl e ↦ ap (λ k. previous' (next' k)) e ∙ (ap previous' next_a ∙ (previous_q ∙ sym e))
      | inr ne ↦
          let onward : next' p ≡ next p = next_else p ne (not_q p m) in
          let not_b : next p ≢ b = λ e. ne (sym (r.back p m) ∙ (ap previous e ∙ sym a_is)) in
          ap previous' onward ∙ (previous_else _ not_b (not_q _ (mine_next mine next previous first len r p m)) ∙ r.back p m)
    ]

    pub ring-insert : Ring mine' next' previous' first' (len + 1)
    unfolding longer thread-insert
    ring-insert = record {
      thread = longer;
      closes = λ _. ap (λ k. next' (get_or (insert r.thread.places i q) k 0)) (omega arith) ∙ closes';
      back = λ p m. elim (only p m) [ inl old ↦ back_old p old | inr e ↦ ap (λ k. previous' (next' k)) e ∙ (ap previous' next_q ∙ (previous_b ∙ sym e)) ];
    }

    pub places-ring-insert : ring-insert.thread.places ≡ insert r.thread.places i q
    unfolding ring-insert longer thread-insert
    places-ring-insert = refl

-- the place p between a and b is removed
module _ (mine mine' : ℕ → Type 0) (next next' previous previous' : ℕ → ℕ) (first len : ℕ) (r : Ring mine next previous first len) (p i a b : ℕ) (within : i < len)
    (is : get_or r.thread.places i 0 ≡ p) (a_is : a ≡ previous p) (b_is : b ≡ next p)
    (kept : (s : ℕ) → mine s → s ≢ p → mine' s) (only : (s : ℕ) → mine' s → mine s × (s ≢ p))
    (next_a : next' a ≡ b) (next_else : (s : ℕ) → s ≢ a → s ≢ p → next' s ≡ next s)
    (previous_b : previous' b ≡ a) (previous_else : (s : ℕ) → s ≢ b → s ≢ p → previous' s ≡ previous s) where
  behind : 0 < i → a ≡ get_or r.thread.places (i - 1) 0
  behind lo = a_is ∙ ap previous (sym is ∙ ap (λ k. get_or r.thread.places k 0) (omega arith)) ∙ step_back mine next previous first len r (i - 1) (omega arith)

  p_first : i ≡ 0 → p ≡ first
  p_first z = sym is ∙ ap (λ k. get_or r.thread.places k 0) z ∙ sym (r.thread.head (omega arith))

  behind_first : i ≡ 0 → a ≡ get_or r.thread.places (len - 1) 0
  behind_first z = a_is ∙ ap previous (p_first z) ∙ last_place mine next previous first len r (omega arith)

  ahead : i + 1 < len → b ≡ get_or r.thread.places (i + 1) 0
  ahead lt = b_is ∙ ap next (sym is) ∙ r.thread.link i lt

  ahead_last : i + 1 ≡ len → b ≡ first
  ahead_last e = b_is ∙ ap next (sym is ∙ ap (λ k. get_or r.thread.places k 0) (omega arith)) ∙ r.closes (omega arith)

  other : (j : ℕ) → j < len → j ≢ i → get_or r.thread.places j 0 ≢ p
  other j lt ne e = ne (r.thread.distinct j i lt within (e ∙ sym is))

  not_behind : (j : ℕ) → j < len → (0 < i → j ≢ i - 1) → (i ≡ 0 → j ≢ len - 1) → get_or r.thread.places j 0 ≢ a
  not_behind j lt inner outer e = elim (cases_eq i 0) [
    | inl z ↦ outer z (r.thread.distinct j (len - 1) lt (omega arith) (e ∙ behind_first z))
    | inr nz ↦ inner (omega arith) (r.thread.distinct j (i - 1) lt (omega arith) (e ∙ behind (omega arith)))
  ]

  onward_same : (j : ℕ) → j < len → j ≢ i → (0 < i → j ≢ i - 1) → (i ≡ 0 → j ≢ len - 1) → next' (get_or r.thread.places j 0) ≡ next (get_or r.thread.places j 0)
  onward_same j lt ne inner outer = next_else _ (not_behind j lt inner outer) (other j lt ne)

  module _ (first' : ℕ) (new_first : first ≡ p → first' ≡ b) (old_first : first ≢ p → first' ≡ first) where
    first_stays : 0 < i → first ≢ p
    first_stays lo e = absurd (omega (arith, r.thread.distinct 0 i (omega arith) within (sym (r.thread.head (omega arith)) ∙ (e ∙ sym is)), lo))

    shorter : Thread mine' next' first' (len - 1)
    shorter = thread-remove mine mine' next next' first len r.thread p i within is kept only
        (λ lo lt. ap next' (sym (behind lo)) ∙ (next_a ∙ ahead lt))
        (λ j lt ne1 ne2. onward_same j (omega arith) ne2 (λ lo. omega arith) (λ z. omega arith))
        first'
        (λ z lt. new_first (sym (p_first z)) ∙ (ahead (omega arith) ∙ ap (λ k. get_or r.thread.places k 0) (omega arith)))
        (λ lo. old_first (first_stays lo))

    closes_less : 0 < len - 1 → next' (get_or (remove r.thread.places i) (len - 1 - 1) 0) ≡ first'
    closes_less more = let u : i < length r.thread.places = omega (arith, r.thread.count) in elim (cases_lt (i + 1) len) [
      | inl lt ↦ ap next' (high r.thread.places i u (len - 1 - 1) (omega arith)) ∙ (ap (λ k. next' (get_or r.thread.places k 0)) (omega arith) ∙ elim (cases_eq i 0) [
        | inl z ↦ ap next' (sym (behind_first z)) ∙ (next_a ∙ sym (new_first (sym (p_first z))))
        | inr nz ↦ onward_same (len - 1) (omega arith) (omega arith) (λ lo. omega arith) (λ z. absurd (nz z)) ∙ (r.closes (omega arith) ∙ sym (old_first (first_stays (omega arith))))
      ])
      | inr ge ↦ ap next' (low r.thread.places i u (len - 1 - 1) (omega arith))
          ∙ (ap (λ k. next' (get_or r.thread.places k 0)) (omega arith) ∙ (ap next' (sym (behind (omega arith))) ∙ (next_a ∙ (ahead_last (omega arith) ∙ sym (old_first (first_stays (omega arith)))))))
    ]

    back_less : (s : ℕ) → mine s → s ≢ p → previous' (next' s) ≡ s
    back_less s m ne = elim (cases_eq s a) [
      | inl e ↦ ap (λ k. previous' (next' k)) e ∙ (ap previous' next_a ∙ (previous_b ∙ sym e))
      | inr off ↦
          let onward : next' s ≡ next s = next_else s off ne in
          let not_b : next s ≢ b = λ e. ne (sym (r.back s m) ∙ (ap previous (e ∙ b_is) ∙ r.back p (subst mine is (r.thread.inside i within)))) in
          let not_p : next s ≢ p = λ e. off (sym (r.back s m) ∙ (ap previous e ∙ sym a_is)) in
          ap previous' onward ∙ (previous_else _ not_b not_p ∙ r.back s m)
    ]

    pub ring-remove : Ring mine' next' previous' first' (len - 1)
    unfolding shorter thread-remove
    ring-remove = record {
      thread = shorter;
      closes = closes_less;
      back = λ s m. let old = only s m in back_less s old.0 old.1;
    }

    pub places-ring-remove : ring-remove.thread.places ≡ remove r.thread.places i
    unfolding ring-remove shorter thread-remove
    places-ring-remove = refl

-- going back from the first leads to the last, the one before it, and so on
pub ring-steps : (mine : ℕ → Type 0) (next previous : ℕ → ℕ) (first len : ℕ) (r : Ring mine next previous first len) (n : ℕ) → n < len → steps previous (suc n) first ≡ get_or r.thread.places
    (len - 1 - n) 0
ring-steps mine next previous first len r zero lt = last_place mine next previous first len r lt ∙ ap (λ k. get_or r.thread.places k 0) (omega arith)
ring-steps mine next previous first len r (suc n) lt =
    ap previous (ring-steps mine next previous first len r n (omega (arith, lt)))
    ∙ (ap (λ k. previous (get_or r.thread.places k 0)) (omega arith) ∙ step_back mine next previous first len r (len - 1 - suc n) (omega (arith, lt)))

-- element i of the ring is len - i steps back from the first
pub steps-at : (mine : ℕ → Type 0) (next previous : ℕ → ℕ) (first len : ℕ) (r : Ring mine next previous first len) (i : ℕ) → i < len → steps previous (len - i) first ≡ get_or r.thread.places i 0
steps-at mine next previous first len r i lt =
    let e : len - i ≡ suc (len - i - 1) = omega (arith, lt) in
    ap (λ k. steps previous k first) e ∙ (ring-steps mine next previous first len r (len - i - 1) (omega (arith, lt)) ∙ ap (λ k. get_or r.thread.places k 0) (omega (arith, lt)))

pub steps-end : (previous : ℕ → ℕ) (first len i : ℕ) → i ≡ len → steps previous (len - i) first ≡ first
steps-end previous first len i e = let z : len - i ≡ 0 = omega arith in ap (λ k. steps previous k first) z

pub steps-mine : (mine : ℕ → Type 0) (next previous : ℕ → ℕ) (first len : ℕ) (r : Ring mine next previous first len) (n : ℕ) → 0 < len → mine (steps previous n first)
steps-mine mine next previous first len r zero some = mine_first mine next previous first len r some
steps-mine mine next previous first len r (suc n) some = mine_previous mine next previous first len r _ (steps-mine mine next previous first len r n some)

-- one step commutes with n steps
pub steps-first : (link : ℕ → ℕ) (n p : ℕ) → steps link n (link p) ≡ link (steps link n p)
steps-first link zero p = refl
steps-first link (suc n) p = ap link (steps-first link n p)
