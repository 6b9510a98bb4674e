-- The effect of an edit of the links on a list of places.
use Rattle.std.proofs.Common.{eqb, false, ◌≡◌, ℕ, zero, suc, ◌+◌, ◌-◌, ◌<◌, ◌≤◌, ◌≢◌, ◌⊎◌, List, [], ◌∷◌, length, get_or, refl, sym, ◌∙◌, ap, subst, inl, inr, arith, true}
use Rattle.std.specs.List.{insert, remove, IsDistinct, AllByRecursion, list_any}
use Rattle.std.proofs.lemmas.Bool.{cases_lt, cases_eq, false≢true}
use Rattle.std.proofs.lemmas.Bool.Decides.{nat_tests}
use Rattle.std.proofs.lemmas.List.Edits.{length-insert, get_or-insert_below, get_or-insert_at, get_or-insert_above, length-remove, get_or-remove_below, get_or-remove_above}
use Rattle.std.proofs.lemmas.Map.Steps.{length-le_from_distinct_below}
use Rattle.chain_pool.specs.Threads.{Thread, steps}

-- the element at an index after an insertion: below, at or above the inserted one
module _ (L : List ℕ) (i q : ℕ) (within : i ≤ length L) where
  pub below : (j : ℕ) → j < i → get_or (insert L i q) j 0 ≡ get_or L j 0
  below j lt = get_or-insert_below L i q 0 j lt within

  pub here : (j : ℕ) → j ≡ i → get_or (insert L i q) j 0 ≡ q
  here j is = ap (λ k. get_or (insert L i q) k 0) is ∙ get_or-insert_at L i q 0 within

  pub above : (j : ℕ) → i < j → get_or (insert L i q) j 0 ≡ get_or L (j - 1) 0
  above j lt = let e : j ≡ j - 1 + 1 = omega arith in ap (λ k. get_or (insert L i q) k 0) e ∙ get_or-insert_above L i q 0 (j - 1) (omega arith) within

module _ (mine mine' : ℕ → Type 0) (next next' : ℕ → ℕ) (first len : ℕ) (t : Thread mine next first len) (q i : ℕ) (within : i ≤ len)
    (fresh : mine q → ⊥) (now : mine' q) (kept : (p : ℕ) → mine p → mine' p) (only : (p : ℕ) → mine' p → (mine p) ⊎ (p ≡ q))
    (before : 0 < i → next' (get_or t.places (i - 1) 0) ≡ q) (after : i < len → next' q ≡ get_or t.places i 0)
    (others : (j : ℕ) → j + 1 < len → j + 1 ≢ i → next' (get_or t.places j 0) ≡ next (get_or t.places j 0)) where
  pub insert_within : i ≤ length t.places
  insert_within = omega (arith, t.count)

  old_is_fresh : (j : ℕ) → j < len → get_or t.places j 0 ≡ q → ⊥
  old_is_fresh j lt is = fresh (subst mine is (t.inside j lt))

  pub distinct' : (a b : ℕ) → a < len + 1 → b < len + 1 → get_or (insert t.places i q) a 0 ≡ get_or (insert t.places i q) b 0 → a ≡ b
  distinct' a b la lb is =
      grind (
        arith,
        below t.places i q insert_within a,
        here t.places i q insert_within a,
        above t.places i q insert_within a,
        below t.places i q insert_within b,
        here t.places i q insert_within b,
        above t.places i q insert_within b,
        t.distinct a b,
        t.distinct a (b - 1),
        t.distinct (a - 1) b,
        t.distinct (a - 1) (b - 1),
        old_is_fresh a,
        old_is_fresh (a - 1),
        old_is_fresh b,
        old_is_fresh (b - 1),
      )

  pub link' : (j : ℕ) → j + 1 < len + 1 → next' (get_or (insert t.places i q) j 0) ≡ get_or (insert t.places i q) (j + 1) 0
  link' j lt = elim (cases_lt j i) [
    | inl lo ↦ elim (cases_eq (j + 1) i) [
      | inl e ↦ ap next' (below t.places i q insert_within j lo) ∙ (ap (λ k. next' (get_or t.places k 0)) (omega arith) ∙ before (omega arith)) ∙ sym (here t.places i q insert_within (j + 1) e)
      | inr ne ↦ ap next' (below t.places i q insert_within j lo) ∙ others j (omega arith) ne ∙ t.link j (omega arith) ∙ sym (below t.places i q insert_within (j + 1) (omega arith))
    ]
    | inr hi ↦ elim (cases_eq j i) [
      | inl e ↦ ap next' (here t.places i q insert_within j e) ∙ after (omega arith) ∙ ap (λ k. get_or t.places k 0) (omega arith) ∙ sym (above t.places i q insert_within (j + 1) (omega arith))
      | inr ne ↦ ap next' (above t.places i q insert_within j (omega arith)) ∙ others (j - 1) (omega arith) (omega arith) ∙ t.link (j - 1) (omega arith) ∙ ap (λ k. get_or t.places k 0) (omega arith)
          ∙ sym (above t.places i q insert_within (j + 1) (omega arith))
    ]
  ]

  pub inside' : (j : ℕ) → j < len + 1 → mine' (get_or (insert t.places i q) j 0)
  inside' j lt = elim (cases_lt j i) [
    | inl lo ↦ subst mine' (sym (below t.places i q insert_within j lo)) (kept _ (t.inside j (omega arith)))
    | inr hi ↦ elim (cases_eq j i) [
      | inl e ↦ subst mine' (sym (here t.places i q insert_within j e)) now
      | inr ne ↦ subst mine' (sym (above t.places i q insert_within j (omega arith))) (kept _ (t.inside (j - 1) (omega arith)))
    ]
  ]

  shifted : (p j : ℕ) → j < len → get_or t.places j 0 ≡ p → (k : ℕ) × ((k < len + 1) × (get_or (insert t.places i q) k 0 ≡ p))
  shifted p j lt is = elim (cases_lt j i) [
    | inl lo ↦ (j, (omega arith, below t.places i q insert_within j lo ∙ is))
    | inr hi ↦ (j + 1, (omega arith, above t.places i q insert_within (j + 1) (omega arith) ∙ (ap (λ k. get_or t.places k 0) (omega arith) ∙ is)))
  ]

  pub complete' : (p : ℕ) → mine' p → (k : ℕ) × ((k < len + 1) × (get_or (insert t.places i q) k 0 ≡ p))
  complete' p m = elim (only p m) [
    | inl old ↦ let at = t.complete p old in shifted p at.0 at.1.0 at.1.1
    | inr e ↦ (i, (omega arith, here t.places i q insert_within i refl ∙ sym e))
  ]

  unfoldable pub thread-insert : (first' : ℕ) → (i ≡ 0 → first' ≡ q) → (0 < i → first' ≡ first) → Thread mine' next' first' (len + 1)
  thread-insert first' new_first old_first = record {
    places = insert t.places i q;
    count = let n = length-insert t.places i q insert_within in omega (arith, n, t.count);
    head = λ _. elim (cases_eq i 0) [
      | inl e ↦ new_first e ∙ sym (here t.places i q insert_within 0 (sym e))
      | inr ne ↦ old_first (omega arith) ∙ t.head (omega arith) ∙ sym (below t.places i q insert_within 0 (omega arith))
    ];
    link = link';
    inside = inside';
    distinct = distinct';
    complete = complete';
  }

-- the list is unchanged if nothing of it changed
unfoldable pub thread-keep : (mine mine' : ℕ → Type 0) (next next' : ℕ → ℕ) (first len : ℕ) (t : Thread mine next first len)
    → ((p : ℕ) → mine p → mine' p) → ((p : ℕ) → mine' p → mine p) → ((p : ℕ) → mine p → next' p ≡ next p) → Thread mine' next' first len
thread-keep mine mine' next next' first len t kept only same = record {
  places = t.places;
  count = t.count;
  head = t.head;
  link = λ j lt. same _ (t.inside j (omega arith)) ∙ t.link j lt;
  inside = λ j lt. kept _ (t.inside j lt);
  distinct = t.distinct;
  complete = λ p m. t.complete p (only p m);
}

-- the element at an index after a removal
module _ (L : List ℕ) (i : ℕ) (within : i < length L) where
  pub low : (j : ℕ) → j < i → get_or (remove L i) j 0 ≡ get_or L j 0
  low j lt = get_or-remove_below L i 0 j lt within

  pub high : (j : ℕ) → i ≤ j → get_or (remove L i) j 0 ≡ get_or L (j + 1) 0
  high j le = get_or-remove_above L i 0 j le within

module _ (mine mine' : ℕ → Type 0) (next next' : ℕ → ℕ) (first len : ℕ) (t : Thread mine next first len) (p i : ℕ) (within : i < len) (is : get_or t.places i 0 ≡ p)
    (kept : (r : ℕ) → mine r → r ≢ p → mine' r) (only : (r : ℕ) → mine' r → mine r × (r ≢ p))
    (over : 0 < i → i + 1 < len → next' (get_or t.places (i - 1) 0) ≡ get_or t.places (i + 1) 0)
    (others : (j : ℕ) → j + 1 < len → j + 1 ≢ i → j ≢ i → next' (get_or t.places j 0) ≡ next (get_or t.places j 0)) where
  pub remove_within : i < length t.places
  remove_within = omega (arith, t.count)

  other_place : (j : ℕ) → j < len → j ≢ i → get_or t.places j 0 ≢ p
  other_place j lt ne e = ne (t.distinct j i lt within (e ∙ sym is))

  pub link_less : (j : ℕ) → j + 1 < len - 1 → next' (get_or (remove t.places i) j 0) ≡ get_or (remove t.places i) (j + 1) 0
  link_less j lt = elim (cases_lt j i) [
    | inl lo ↦ elim (cases_eq (j + 1) i) [
      | inl e ↦ ap next' (low t.places i remove_within j lo) ∙ (ap (λ k. next' (get_or t.places k 0)) (omega arith) ∙ over (omega arith) (omega arith)) ∙ ap (λ k. get_or t.places k 0) (omega arith)
          ∙ sym (high t.places i remove_within (j + 1) (omega arith))
      | inr ne ↦ ap next' (low t.places i remove_within j lo) ∙ others j (omega arith) ne (omega arith) ∙ t.link j (omega arith) ∙ sym (low t.places i remove_within (j + 1) (omega arith))
    ]
    | inr hi ↦ ap next' (high t.places i remove_within j hi) ∙ others (j + 1) (omega arith) (omega arith) (omega arith) ∙ t.link (j + 1) (omega arith)
        ∙ sym (high t.places i remove_within (j + 1) (omega arith))
  ]

  pub inside_less : (j : ℕ) → j < len - 1 → mine' (get_or (remove t.places i) j 0)
  inside_less j lt = elim (cases_lt j i) [
    | inl lo ↦ subst mine' (sym (low t.places i remove_within j lo)) (kept _ (t.inside j (omega arith)) (other_place j (omega arith) (omega arith)))
    | inr hi ↦ subst mine' (sym (high t.places i remove_within j hi)) (kept _ (t.inside (j + 1) (omega arith)) (other_place (j + 1) (omega arith) (omega arith)))
  ]

  pub distinct_less : (a b : ℕ) → a < len - 1 → b < len - 1 → get_or (remove t.places i) a 0 ≡ get_or (remove t.places i) b 0 → a ≡ b
  distinct_less a b la lb e =
      grind (
        arith,
        low t.places i remove_within a,
        high t.places i remove_within a,
        low t.places i remove_within b,
        high t.places i remove_within b,
        t.distinct a b,
        t.distinct a (b + 1),
        t.distinct (a + 1) b,
        t.distinct (a + 1) (b + 1),
      )

  found_less : (r j : ℕ) → j < len → get_or t.places j 0 ≡ r → r ≢ p → (k : ℕ) × ((k < len - 1) × (get_or (remove t.places i) k 0 ≡ r))
  found_less r j lt e ne =
      let apart : j ≢ i = λ same. ne (sym e ∙ ap (λ k. get_or t.places k 0) same ∙ is) in
      elim (cases_lt j i) [
        | inl lo ↦ (j, (omega arith, low t.places i remove_within j lo ∙ e))
        | inr hi ↦ (j - 1, (omega arith, high t.places i remove_within (j - 1) (omega arith) ∙ (ap (λ k. get_or t.places k 0) (omega arith) ∙ e)))
      ]

  pub complete_less : (r : ℕ) → mine' r → (k : ℕ) × ((k < len - 1) × (get_or (remove t.places i) k 0 ≡ r))
  complete_less r m = let old = only r m in let at = t.complete r old.0 in found_less r at.0 at.1.0 at.1.1 old.1

  unfoldable pub thread-remove : (first' : ℕ) → (i ≡ 0 → 1 < len → first' ≡ get_or t.places 1 0) → (0 < i → first' ≡ first) → Thread mine' next' first' (len - 1)
  thread-remove first' new_first old_first = record {
    places = remove t.places i;
    count = let n = length-remove t.places i remove_within in omega (arith, n, t.count);
    head = λ some. elim (cases_eq i 0) [
      | inl e ↦ new_first e (omega arith) ∙ sym (high t.places i remove_within 0 (omega arith))
      | inr ne ↦ old_first (omega arith) ∙ t.head (omega arith) ∙ sym (low t.places i remove_within 0 (omega arith))
    ];
    link = link_less;
    inside = inside_less;
    distinct = distinct_less;
    complete = complete_less;
  }

-- a list has no more elements than there are places
distinct_tail : (x : ℕ) (L : List ℕ) → ((i j : ℕ) → i < length (x ∷ L) → j < length (x ∷ L) → get_or (x ∷ L) i 0 ≡ get_or (x ∷ L) j 0 → i ≡ j) → (i j : ℕ) → i < length L → j < length L
    → get_or L i 0 ≡ get_or L j 0 → i ≡ j
distinct_tail x L d i j li lj e = let s = d (suc i) (suc j) (omega (arith, li)) (omega (arith, lj)) e in omega (arith, s)

not_later : (x : ℕ) (L : List ℕ) → ((i : ℕ) → i < length L → get_or L i 0 ≢ x) → AllByRecursion (λ y. eqb x y ≡ false) L
not_later x [] h = tt
not_later x (y ∷ L) h = (grind (arith, nat_tests, h 0 (omega arith)), not_later x L (λ i lt. h (suc i) (omega arith)))

is_distinct : (L : List ℕ) → ((i j : ℕ) → i < length L → j < length L → get_or L i 0 ≡ get_or L j 0 → i ≡ j) → IsDistinct eqb L
unfolding IsDistinct
is_distinct [] d = tt
is_distinct (x ∷ L) d = (not_later x L (λ i lt e. absurd (omega (arith, d (suc i) 0 (omega (arith, lt)) (omega arith) e))), is_distinct L (distinct_tail x L d))

all_below : (L : List ℕ) (n : ℕ) → ((i : ℕ) → i < length L → get_or L i 0 < n) → (q : ℕ) → list_any (eqb q) L ≡ true → q < n
all_below [] n h q in_it = absurd (false≢true in_it)
all_below (x ∷ L) n h q in_it = elim (cases_eq q x) [
  | inl e ↦ let first = h 0 (omega arith) in omega (arith, first, e)
  | inr ne ↦ all_below L n (λ i lt. h (suc i) (omega arith)) q (grind (arith, nat_tests, in_it, ne))
]

-- a list has fewer elements than there are places if some place is not in it
pub len-lt : (mine : ℕ → Type 0) (next : ℕ → ℕ) (first len room : ℕ) (t : Thread mine next first len) → ((p : ℕ) → mine p → p < room) → (q : ℕ) → q < room → (mine q → ⊥) → len < room
unfolding IsDistinct
len-lt mine next first len room t within q q_in fresh =
    let short : (i : ℕ) → i < length (q ∷ t.places) → get_or (q ∷ t.places) i 0 < room = below_all in
    let apart : (i j : ℕ) → i < length t.places → j < length t.places → get_or t.places i 0 ≡ get_or t.places j 0 → i ≡ j = λ i j li lj e. t.distinct i j (omega (arith, t.count, li))
    (omega (arith, t.count, lj)) e in
    let off : (i : ℕ) → i < length t.places → get_or t.places i 0 ≢ q = λ i lt e. fresh (subst mine e (t.inside i (omega (arith, t.count, lt)))) in
    omega (arith, t.count, length-le_from_distinct_below (q ∷ t.places) room (not_later q t.places off, is_distinct t.places apart) (all_below (q ∷ t.places) room short))
  where
    below_all : (i : ℕ) → i < length (q ∷ t.places) → get_or (q ∷ t.places) i 0 < room
    below_all zero lt = q_in
    below_all (suc i) lt = within _ (t.inside i (omega (arith, t.count, lt)))

-- element n of a list is n steps from the first
pub thread-steps : (mine : ℕ → Type 0) (next : ℕ → ℕ) (first len : ℕ) (t : Thread mine next first len) (n : ℕ) → n < len → steps next n first ≡ get_or t.places n 0
thread-steps mine next first len t zero lt = t.head lt
thread-steps mine next first len t (suc n) lt = ap next (thread-steps mine next first len t n (omega (arith, lt))) ∙ (t.link n (omega (arith, lt)) ∙ ap (λ k. get_or t.places k 0) (omega arith))

-- an empty list
pub thread-none : (mine : ℕ → Type 0) (next : ℕ → ℕ) (first first' len : ℕ) → Thread mine next first len → len ≡ 0 → Thread mine next first' 0
thread-none mine next first first' len t none = record {
  places = [];
  count = refl;
  head = λ some. absurd (omega (arith, some));
  link = λ j lt. absurd (omega (arith, lt));
  inside = λ j lt. absurd (omega (arith, lt));
  distinct = λ i j li lj e. absurd (omega (arith, li));
  complete = λ p m. let at = t.complete p m in absurd (omega (arith, at.1.0, none));
}
