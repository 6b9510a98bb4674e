-- A multimap in two lists that are sorted by key: the index range of a key's values, and the effect of edits in it.
use Rattle.std.proofs.Common.{◌≡◌, ℕ, zero, suc, ◌+◌, ◌-◌, ◌<◌, ◌≤◌, Bool, true, false, cond, not, List, [], ◌∷◌, ◌++◌, length, take, drop, get_or, set, refl, sym, ◌∙◌, ap, subst, arith, inl, inr}
use Rattle.std.specs.declared.cmp.Ordering.{Ordering}
use Rattle.std.specs.declared.cmp.Ordering.TheVariants.{Less, Equal, Greater}
use Rattle.std.specs.Ordering.{is_lt, is_eq, is_gt, ordering_reverse}
use Rattle.std.specs.Cmp.{IsTotalOrder}
use Rattle.std.specs.List.{insert, remove, remove_range}
use Rattle.std.specs.List.Sorted.{IsPartitionPoint, IsPartitionedBy}
use Rattle.std.proofs.lemmas.Bool.{cases_Bool}
use Rattle.std.proofs.lemmas.Bool.Decides.{eqb_tells}
use Rattle.std.proofs.lemmas.List.{get_or_default}
use Rattle.std.proofs.lemmas.Cmp.{upto, tied_itself, alike_right}
use Rattle.sorted_multimap.specs.Buckets.{values_beside, NoneBelow, Ascends, passing, lows, tops}

not_less : (o : Ordering) → is_gt o ≡ false → is_lt (ordering_reverse o) ≡ false
not_less Less h = refl
not_less Equal h = refl
not_less Greater h = absurd (cc)

not_greater : (o : Ordering) → is_lt o ≡ false → is_gt (ordering_reverse o) ≡ false
not_greater Less h = absurd (cc)
not_greater Equal h = refl
not_greater Greater h = refl

is_equal : (o : Ordering) → is_eq o ≡ true → o ≡ Equal
is_equal Less h = absurd (cc)
is_equal Equal h = refl
is_equal Greater h = absurd (cc)

-- the three results of a comparison
data Compared (o : Ordering) : Type 0 where
  below : o ≡ Less → Compared o
  tied : o ≡ Equal → Compared o
  above : o ≡ Greater → Compared o

compared : (o : Ordering) → Compared o
compared Less = below refl
compared Equal = tied refl
compared Greater = above refl

true_from : (b : Bool) → (b ≡ false → ⊥) → b ≡ true
true_from true h = refl
true_from false h = absurd (h refl)

flipped : (b : Bool) → not b ≡ true → b ≡ false
flipped true h = cc
flipped false h = refl

clash : (b : Bool) → b ≡ true → b ≡ false → ⊥
clash b h k = let z : true ≡ false = sym h ∙ k in cc

passing_length : {K : Type 0} (p : K → Bool) (ks : List K) → passing p ks ≤ length ks
passing_length p [] = omega arith
passing_length p (j ∷ js) = go (p j) (passing_length p js)
  where
    go : (b : Bool) → passing p js ≤ length js → cond b (suc (passing p js)) (passing p js) ≤ suc (length js)
    go true h = omega arith
    go false h = omega arith

passing_none : {K : Type 0} (p : K → Bool) (ks : List K) → ((i : ℕ) (d : K) → i < length ks → p (get_or ks i d) ≡ false) → passing p ks ≡ 0
passing_none p [] h = refl
passing_none p (j ∷ js) h = let off : p j ≡ false = h 0 j (omega arith) in rw off (passing_none p js (λ i d lt. h (suc i) d (omega arith)))

-- if a list is partitioned at n, n of its elements pass
pub passing_parted : {K : Type 0} (p : K → Bool) (ks : List K) (n : ℕ) → n ≤ length ks → IsPartitionPoint (λ j. p j ≡ true) (λ j. p j ≡ false) ks n → n ≡ passing p ks
passing_parted p [] n le h = omega arith
passing_parted p (j ∷ js) zero le h = sym (passing_none p (j ∷ js) (λ i d lt. h.1 i d (omega arith) lt))
passing_parted p (j ∷ js) (suc n) le h =
    let on : p j ≡ true = h.0 0 j (omega arith) (omega arith) in
    let ih = passing_parted p js n (omega arith) (λ i d a b. h.0 (suc i) d (omega arith) (omega arith), λ i d a b. h.1 (suc i) d (omega arith) (omega arith)) in
    rw on (ap suc ih)

-- the first n keys are below k
abbrev pub FirstLow : {K : Type 0} → (K → K → Ordering) → List K → K → ℕ → Type 0
FirstLow {K} R ks k n = (j : ℕ) (d : K) → j < n → is_lt (R (get_or ks j d) k) ≡ true

pub low_none : {K : Type 0} (R : K → K → Ordering) (ks : List K) (k : K) → FirstLow R ks k 0
low_none R ks k j d l = absurd (omega arith)

-- if the next key is below k too, the first n + 1 are
pub low_more : {K : Type 0} (R : K → K → Ordering) (ks : List K) (k i : K) (n : ℕ) → n < length ks → i ≡ get_or ks n i → is_lt (R i k) ≡ true → FirstLow R ks k n → FirstLow R ks k (n + 1)
low_more R ks k i n l at on f j d lt = elim (eqb_tells j n) [
  | inl (hit, same) ↦ ap (λ x. is_lt (R x k)) (ap (λ m. get_or ks m d) same ∙ get_or_default ks n d i l ∙ sym at) ∙ on
  | inr (miss, other) ↦ f j d (omega arith)
]

pub low_all : {K : Type 0} (R : K → K → Ordering) (ks : List K) (k : K) (n : ℕ) → n ≡ length ks → FirstLow R ks k n → n ≡ lows R ks k
low_all R ks k n e f = passing_parted (λ j. is_lt (R j k)) ks n (omega arith) ((λ j d le lt. f j d lt), (λ j d le lt. absurd (omega arith)))

module _ {K : Type 0} (R : K → K → Ordering) (total : IsTotalOrder R) where
  -- a test that passes every key that is at most a key that passes
  abbrev pub Falls : (K → Bool) → Type 0
  Falls p = (i j : K) → is_gt (R i j) ≡ false → p j ≡ true → p i ≡ true

  none_at : (x : K) (ys : List K) → NoneBelow R x ys → (m : ℕ) (d : K) → m < length ys → is_gt (R x (get_or ys m d)) ≡ false
  none_at x [] n m d l = absurd (omega arith)
  none_at x (y ∷ ys) n zero d l = n.0
  none_at x (y ∷ ys) n (suc m) d l = none_at x ys n.1 m d (omega arith)

  pub parted : (p : K → Bool) → Falls p → (ks : List K) → Ascends R ks → IsPartitionedBy p ks
  parted p f [] a i j d le lt h = absurd (omega arith)
  parted p f (x ∷ xs) a zero zero d le lt h = h
  parted p f (x ∷ xs) a zero (suc j) d le lt h = f x _ (none_at x xs a.0 j d (omega arith)) h
  parted p f (x ∷ xs) a (suc i) zero d le lt h = absurd (omega arith)
  parted p f (x ∷ xs) a (suc i) (suc j) d le lt h = parted p f xs a.1 i j d (omega arith) (omega arith) h

  not_under : (i j : K) → is_lt (R i j) ≡ false → is_gt (R j i) ≡ false
  not_under i j h = ap is_gt (total.antisymm j i) ∙ not_greater (R i j) h

  not_over : (i j : K) → is_gt (R i j) ≡ false → is_lt (R j i) ≡ false
  not_over i j h = ap is_lt (total.antisymm j i) ∙ not_less (R i j) h

  pub lows_fall : (k : K) → Falls (λ j. is_lt (R j k))
  lows_fall k i j le h = true_from (is_lt (R i k)) (λ e. clash _ h (not_over k j (upto total k i j (not_under i k e) le)))

  pub tops_fall : (k : K) → Falls (λ j. not (is_gt (R j k)))
  tops_fall k i j le h = ap not (upto total i j k le (flipped _ h))

  -- if the first n keys are below k and the next one is not, n keys are below k
  pub low_ends : (ks : List K) (k i : K) (n : ℕ) → Ascends R ks → n < length ks → i ≡ get_or ks n i → is_lt (R i k) ≡ false → FirstLow R ks k n → n ≡ lows R ks k
  low_ends ks k i n a l at off f =
      let p = λ (j : K). is_lt (R j k) in
      passing_parted p ks n (omega arith) (
        (λ j d le lt. f j d lt),
        (λ j d le lt. elim (cases_Bool (p (get_or ks j d))) [
          | inl e ↦ absurd (clash _ (parted p (lows_fall k) ks a n j d le lt e) (ap p (get_or_default ks n d i l ∙ sym at) ∙ off))
          | inr e ↦ e
        ]),
      )

  -- if a key fails the test, all later keys fail it
  rest_none : (p : K → Bool) → Falls p → (j : K) (js : List K) → NoneBelow R j js → p j ≡ false → passing p js ≡ 0
  rest_none p f j [] n h = refl
  rest_none p f j (i ∷ is) n h = go (p i) refl (rest_none p f j is n.1 h)
    where
      go : (b : Bool) → p i ≡ b → passing p is ≡ 0 → cond b (suc (passing p is)) (passing p is) ≡ 0
      go true e ih = absurd (clash (p j) (f j i n.0 e) h)
      go false e ih = ih

  -- no key after one that is not below k is below k; no key after one above k is at most k
  lows_rest : (j k : K) (js : List K) → NoneBelow R j js → is_lt (R j k) ≡ false → lows R js k ≡ 0
  lows_rest j k js n h = rest_none (λ i. is_lt (R i k)) (lows_fall k) j js n h

  tops_rest : (j k : K) (js : List K) → NoneBelow R j js → R j k ≡ Greater → tops R js k ≡ 0
  tops_rest j k js n h = rest_none (λ i. not (is_gt (R i k))) (tops_fall k) j js n (ap (λ o. not (is_gt o)) h)

  pub tops_length : (ks : List K) (k : K) → tops R ks k ≤ length ks
  tops_length ks k = passing_length (λ j. not (is_gt (R j k))) ks

  pub lows_tops : (ks : List K) (k : K) → Ascends R ks → lows R ks k ≤ tops R ks k
  lows_tops [] k a = omega arith
  lows_tops (j ∷ js) k a = elim (compared (R j k)) [
    | below e ↦ let ih = lows_tops js k a.1 in rw e (omega arith)
    | tied e ↦ let z = lows_rest j k js a.0 (ap is_lt e) in rw e (omega arith)
    | above e ↦ let z = lows_rest j k js a.0 (ap is_lt e) in rw e (omega arith)
  ]

  -- keys that tie have the same values
  pub values_tied : {V : Type 0} (ks : List K) (vs : List V) (k q : K) → R k q ≡ Equal → values_beside R ks vs q ≡ values_beside R ks vs k
  values_tied [] vs k q e = refl
  values_tied (j ∷ js) [] k q e = refl
  values_tied (j ∷ js) (v ∷ vs) k q e = rw (values_tied js vs k q e) (ap (λ o. cond (is_eq o) (v ∷ values_beside R js vs k) (values_beside R js vs k)) (sym (alike_right total k q j e)))

  -- replacing the values of a key by themselves changes nothing
  pub values_kept : {V : Type 0} (ks : List K) (vs : List V) (k q : K) → values_beside R ks vs q ≡ cond (is_eq (R k q)) (values_beside R ks vs k) (values_beside R ks vs q)
  values_kept ks vs k q = go (is_eq (R k q)) refl
    where
      go : (b : Bool) → is_eq (R k q) ≡ b → values_beside R ks vs q ≡ cond b (values_beside R ks vs k) (values_beside R ks vs q)
      go true h = values_tied ks vs k q (is_equal _ h)
      go false h = refl

  -- the values of a key follow those of all smaller keys, and precede those of all greater keys
  pub values_range : {V : Type 0} (ks : List K) (vs : List V) (k : K) → Ascends R ks → length ks ≡ length vs
      → take (tops R ks k - lows R ks k) (drop (lows R ks k) vs) ≡ values_beside R ks vs k
  values_range [] vs k a n = refl
  values_range (j ∷ js) [] k a n = absurd (omega arith)
  values_range {V} (j ∷ js) (v ∷ vs) k a n = go (R j k) refl (values_range js vs k a.1 (omega arith))
    where
      go : (o : Ordering) → R j k ≡ o → take (tops R js k - lows R js k) (drop (lows R js k) vs) ≡ values_beside R js vs k
          → take (cond (not (is_gt o)) (suc (tops R js k)) (tops R js k) - cond (is_lt o) (suc (lows R js k)) (lows R js k)) (drop (cond (is_lt o) (suc (lows R js k)) (lows R js k)) (v ∷ vs)) ≡ cond
          (is_eq o) (v ∷ values_beside R js vs k) (values_beside R js vs k)
      go Less e ih = let m : suc (tops R js k) - suc (lows R js k) ≡ tops R js k - lows R js k = omega arith in ap (λ (i : ℕ). take i (drop (lows R js k) vs)) m ∙ ih
      go Equal e ih =
          let z : lows R js k ≡ 0 = lows_rest j k js a.0 (ap is_lt e) in
          let m : suc (tops R js k) - lows R js k ≡ suc (tops R js k) = omega arith in
          let r : tops R js k - lows R js k ≡ tops R js k = omega arith in
          ap (λ (i : ℕ). take i (drop (lows R js k) (v ∷ vs))) m ∙ ap (λ (i : ℕ). take (suc (tops R js k)) (drop i (v ∷ vs))) z
          ∙ ap (λ (xs : List V). v ∷ xs) ((λ j'. take (sym r j') (drop (sym z j') vs)) ∙ ih)
      go Greater e ih =
          let z : lows R js k ≡ 0 = lows_rest j k js a.0 (ap is_lt e) in
          let t : tops R js k ≡ 0 = tops_rest j k js a.0 e in
          let m : tops R js k - lows R js k ≡ 0 = omega arith in
          ap (λ (i : ℕ). take i (drop (lows R js k) (v ∷ vs))) m ∙ sym (ap (λ (i : ℕ). take i (drop (lows R js k) vs)) m) ∙ ih

  -- the number of values of a key
  pub values_length : {V : Type 0} (ks : List K) (vs : List V) (k : K) → Ascends R ks → length ks ≡ length vs → lows R ks k + length (values_beside R ks vs k) ≡ tops R ks k
  values_length [] vs k a n = omega arith
  values_length (j ∷ js) [] k a n = absurd (omega arith)
  values_length (j ∷ js) (v ∷ vs) k a n = go (R j k) refl (values_length js vs k a.1 (omega arith))
    where
      go : (o : Ordering) → R j k ≡ o → lows R js k + length (values_beside R js vs k) ≡ tops R js k
          → cond (is_lt o) (suc (lows R js k)) (lows R js k) + length (cond (is_eq o) (v ∷ values_beside R js vs k) (values_beside R js vs k)) ≡ cond (not (is_gt o)) (suc (tops R js k)) (tops R js k)
      go Less e ih = omega arith
      go Equal e ih = omega arith
      go Greater e ih = omega arith

  -- an insertion at another key leaves the values of q unchanged
  pub values_insert_other : {V : Type 0} (ks : List K) (vs : List V) (p : ℕ) (k q : K) (v : V) → length ks ≡ length vs → p ≤ length ks → is_eq (R k q) ≡ false
      → values_beside R (insert ks p k) (insert vs p v) q ≡ values_beside R ks vs q
  values_insert_other ks vs zero k q v n le off = rw off refl
  values_insert_other [] vs (suc p) k q v n le off = absurd (omega arith)
  values_insert_other (j ∷ js) [] (suc p) k q v n le off = absurd (omega arith)
  values_insert_other {V} (j ∷ js) (w ∷ vs) (suc p) k q v n le off = ap (λ (r : List V). cond (is_eq (R j q)) (w ∷ r) r) (values_insert_other js vs p k q v (omega arith) (omega arith) off)

  pub values_remove_other : {V : Type 0} (ks : List K) (vs : List V) (p : ℕ) (q d : K) → length ks ≡ length vs → p < length ks → is_eq (R (get_or ks p d) q) ≡ false
      → values_beside R (remove ks p) (remove vs p) q ≡ values_beside R ks vs q
  values_remove_other [] vs p q d n lt off = absurd (omega arith)
  values_remove_other (j ∷ js) [] p q d n lt off = absurd (omega arith)
  values_remove_other (j ∷ js) (w ∷ vs) zero q d n lt off = rw off refl
  values_remove_other {V} (j ∷ js) (w ∷ vs) (suc p) q d n lt off = ap (λ (r : List V). cond (is_eq (R j q)) (w ∷ r) r) (values_remove_other js vs p q d (omega arith) (omega arith) off)

  -- an insertion at the key itself
  pub values_insert_here : {V : Type 0} (ks : List K) (vs : List V) (p i : ℕ) (k : K) (v : V) → Ascends R ks → length ks ≡ length vs → p ≡ lows R ks k + i → p ≤ tops R ks k
      → values_beside R (insert ks p k) (insert vs p v) k ≡ insert (values_beside R ks vs k) i v
  values_insert_here ks vs zero i k v a n e le = let z : i ≡ 0 = omega arith in rw (tied_itself total k, z) refl
  values_insert_here [] vs (suc p) i k v a n e le = absurd (omega arith)
  values_insert_here (j ∷ js) [] (suc p) i k v a n e le = absurd (omega arith)
  values_insert_here {V} (j ∷ js) (w ∷ vs) (suc p) i k v a n e le = go (R j k) refl e le (λ h. values_insert_here js vs p h k v a.1 (omega arith))
    where
      go : (o : Ordering) → R j k ≡ o → suc p ≡ cond (is_lt o) (suc (lows R js k)) (lows R js k) + i → suc p ≤ cond (not (is_gt o)) (suc (tops R js k)) (tops R js k)
          → ((h : ℕ) → p ≡ lows R js k + h → p ≤ tops R js k → values_beside R (insert js p k) (insert vs p v) k ≡ insert (values_beside R js vs k) h v)
          → cond (is_eq o) (w ∷ values_beside R (insert js p k) (insert vs p v) k) (values_beside R (insert js p k) (insert vs p v) k) ≡ insert
          (cond (is_eq o) (w ∷ values_beside R js vs k) (values_beside R js vs k)) i v
      go Less r e le ih = ih i (omega arith) (omega arith)
      go Equal r e le ih =
          let z : lows R js k ≡ 0 = lows_rest j k js a.0 (ap is_lt r) in
          let m : i ≡ suc p = omega arith in
          rw m (ap (λ (xs : List V). w ∷ xs) (ih p (omega arith) (omega arith)))
      go Greater r e le ih = let t : tops R js k ≡ 0 = tops_rest j k js a.0 r in absurd (omega arith)

  pub values_remove_here : {V : Type 0} (ks : List K) (vs : List V) (p i : ℕ) (k : K) → Ascends R ks → length ks ≡ length vs → p ≡ lows R ks k + i → p < tops R ks k
      → values_beside R (remove ks p) (remove vs p) k ≡ remove (values_beside R ks vs k) i
  values_remove_here [] vs p i k a n e lt = absurd (omega arith)
  values_remove_here (j ∷ js) [] p i k a n e lt = absurd (omega arith)
  values_remove_here {V} (j ∷ js) (w ∷ vs) zero i k a n e lt = go (R j k) refl e lt
    where
      go : (o : Ordering) → R j k ≡ o → 0 ≡ cond (is_lt o) (suc (lows R js k)) (lows R js k) + i → 0 < cond (not (is_gt o)) (suc (tops R js k)) (tops R js k)
          → values_beside R js vs k ≡ remove (cond (is_eq o) (w ∷ values_beside R js vs k) (values_beside R js vs k)) i
      go Less r e lt = absurd (omega arith)
      go Equal r e lt = let z : i ≡ 0 = omega arith in rw z refl
      go Greater r e lt = let t : tops R js k ≡ 0 = tops_rest j k js a.0 r in absurd (omega arith)
  values_remove_here {V} (j ∷ js) (w ∷ vs) (suc p) i k a n e lt = go (R j k) refl e lt (λ h. values_remove_here js vs p h k a.1 (omega arith))
    where
      go : (o : Ordering) → R j k ≡ o → suc p ≡ cond (is_lt o) (suc (lows R js k)) (lows R js k) + i → suc p < cond (not (is_gt o)) (suc (tops R js k)) (tops R js k)
          → ((h : ℕ) → p ≡ lows R js k + h → p < tops R js k → values_beside R (remove js p) (remove vs p) k ≡ remove (values_beside R js vs k) h)
          → cond (is_eq o) (w ∷ values_beside R (remove js p) (remove vs p) k) (values_beside R (remove js p) (remove vs p) k) ≡ remove
          (cond (is_eq o) (w ∷ values_beside R js vs k) (values_beside R js vs k)) i
      go Less r e lt ih = ih i (omega arith) (omega arith)
      go Equal r e lt ih =
          let z : lows R js k ≡ 0 = lows_rest j k js a.0 (ap is_lt r) in
          let m : i ≡ suc p = omega arith in
          rw m (ap (λ (xs : List V). w ∷ xs) (ih p (omega arith) (omega arith)))
      go Greater r e lt ih = let t : tops R js k ≡ 0 = tops_rest j k js a.0 r in absurd (omega arith)

  pub values_set_other : {V : Type 0} (ks : List K) (vs : List V) (p : ℕ) (q d : K) (v : V) → p < length ks → is_eq (R (get_or ks p d) q) ≡ false
      → values_beside R ks (set vs p v) q ≡ values_beside R ks vs q
  values_set_other [] vs p q d v lt off = absurd (omega arith)
  values_set_other (j ∷ js) [] p q d v lt off = refl
  values_set_other (j ∷ js) (w ∷ vs) zero q d v lt off = rw off refl
  values_set_other {V} (j ∷ js) (w ∷ vs) (suc p) q d v lt off = ap (λ (r : List V). cond (is_eq (R j q)) (w ∷ r) r) (values_set_other js vs p q d v (omega arith) off)

  pub values_set_here : {V : Type 0} (ks : List K) (vs : List V) (p i : ℕ) (k : K) (v : V) → Ascends R ks → length ks ≡ length vs → p ≡ lows R ks k + i → p < tops R ks k
      → values_beside R ks (set vs p v) k ≡ set (values_beside R ks vs k) i v
  values_set_here [] vs p i k v a n e lt = absurd (omega arith)
  values_set_here (j ∷ js) [] p i k v a n e lt = absurd (omega arith)
  values_set_here {V} (j ∷ js) (w ∷ vs) zero i k v a n e lt = go (R j k) refl e lt
    where
      go : (o : Ordering) → R j k ≡ o → 0 ≡ cond (is_lt o) (suc (lows R js k)) (lows R js k) + i → 0 < cond (not (is_gt o)) (suc (tops R js k)) (tops R js k)
          → cond (is_eq o) (v ∷ values_beside R js vs k) (values_beside R js vs k) ≡ set (cond (is_eq o) (w ∷ values_beside R js vs k) (values_beside R js vs k)) i v
      go Less r e lt = absurd (omega arith)
      go Equal r e lt = let z : i ≡ 0 = omega arith in rw z refl
      go Greater r e lt = let t : tops R js k ≡ 0 = tops_rest j k js a.0 r in absurd (omega arith)
  values_set_here {V} (j ∷ js) (w ∷ vs) (suc p) i k v a n e lt = go (R j k) refl e lt (λ h. values_set_here js vs p h k v a.1 (omega arith))
    where
      go : (o : Ordering) → R j k ≡ o → suc p ≡ cond (is_lt o) (suc (lows R js k)) (lows R js k) + i → suc p < cond (not (is_gt o)) (suc (tops R js k)) (tops R js k)
          → ((h : ℕ) → p ≡ lows R js k + h → p < tops R js k → values_beside R js (set vs p v) k ≡ set (values_beside R js vs k) h v)
          → cond (is_eq o) (w ∷ values_beside R js (set vs p v) k) (values_beside R js (set vs p v) k) ≡ set (cond (is_eq o) (w ∷ values_beside R js vs k) (values_beside R js vs k)) i v
      go Less r e lt ih = ih i (omega arith) (omega arith)
      go Equal r e lt ih =
          let z : lows R js k ≡ 0 = lows_rest j k js a.0 (ap is_lt r) in
          let m : i ≡ suc p = omega arith in
          rw m (ap (λ (xs : List V). w ∷ xs) (ih p (omega arith) (omega arith)))
      go Greater r e lt ih = let t : tops R js k ≡ 0 = tops_rest j k js a.0 r in absurd (omega arith)

  -- a key at an index within the range of k ties with k
  key_here : (ks : List K) (p : ℕ) (k d : K) → Ascends R ks → lows R ks k ≤ p → p < tops R ks k → R (get_or ks p d) k ≡ Equal
  key_here [] p k d a le lt = absurd (omega arith)
  key_here (j ∷ js) zero k d a le lt = elim (compared (R j k)) [
    | tied e ↦ e
    | below e ↦ absurd (let z : suc (lows R js k) ≤ 0 = subst (λ (o : Ordering). cond (is_lt o) (suc (lows R js k)) (lows R js k) ≤ 0) e le in omega arith)
    | above e ↦ absurd (let t = tops_rest j k js a.0 e in let z : 0 < tops R js k = subst (λ (o : Ordering). 0 < cond (not (is_gt o)) (suc (tops R js k)) (tops R js k)) e lt in omega arith)
  ]
  key_here (j ∷ js) (suc p) k d a le lt = go (R j k) refl le lt (key_here js p k d a.1)
    where
      go : (o : Ordering) → R j k ≡ o → cond (is_lt o) (suc (lows R js k)) (lows R js k) ≤ suc p → suc p < cond (not (is_gt o)) (suc (tops R js k)) (tops R js k)
          → (lows R js k ≤ p → p < tops R js k → R (get_or js p d) k ≡ Equal) → R (get_or js p d) k ≡ Equal
      go Less e le lt ih = ih (omega arith) (omega arith)
      go Equal e le lt ih = let z = lows_rest j k js a.0 (ap is_lt e) in ih (omega arith) (omega arith)
      go Greater e le lt ih = let t = tops_rest j k js a.0 e in absurd (omega arith)

  -- a key that ties with k is before the end of the range of k
  tied_under : (ks : List K) (p : ℕ) (k d : K) → Ascends R ks → p < length ks → R (get_or ks p d) k ≡ Equal → p < tops R ks k
  tied_under [] p k d a lt e = absurd (omega arith)
  tied_under (j ∷ js) zero k d a lt e = rw e (omega arith)
  tied_under (j ∷ js) (suc p) k d a lt e = go (R j k) refl (tied_under js p k d a.1 (omega arith) e)
    where
      go : (o : Ordering) → R j k ≡ o → p < tops R js k → suc p < cond (not (is_gt o)) (suc (tops R js k)) (tops R js k)
      go Less h ih = omega arith
      go Equal h ih = omega arith
      go Greater h ih = let t = tops_rest j k js a.0 h in absurd (omega arith)

  -- the next key ties with k, or ends the range of k
  pub tied_more : (ks : List K) (k i : K) (n : ℕ) → Ascends R ks → n < length ks → i ≡ get_or ks n i → is_eq (R i k) ≡ true → n + 1 ≤ tops R ks k
  tied_more ks k i n a l at on = let t = tied_under ks n k i a l (ap (λ (x : K). R x k) (sym at) ∙ is_equal _ on) in omega arith

  pub tied_ends : (ks : List K) (k i : K) (n : ℕ) → Ascends R ks → i ≡ get_or ks n i → is_eq (R i k) ≡ false → lows R ks k ≤ n → n ≤ tops R ks k → n ≡ tops R ks k
  tied_ends ks k i n a at off le lt = elim (eqb_tells n (tops R ks k)) [
    | inl (hit, same) ↦ same
    | inr (miss, other) ↦ absurd (clash _ (ap is_eq (key_here ks n k i a le (omega arith))) (ap (λ (x : K). is_eq (R x k)) (sym at) ∙ off))
  ]

  -- insertions and removals keep the order
  none_insert : (j k : K) (ks : List K) (p : ℕ) → is_gt (R j k) ≡ false → NoneBelow R j ks → NoneBelow R j (insert ks p k)
  none_insert j k ks zero h n = (h, n)
  none_insert j k [] (suc p) h n = (h, n)
  none_insert j k (i ∷ is) (suc p) h n = (n.0, none_insert j k is p h n.1)

  none_remove : (j : K) (ks : List K) (p : ℕ) → NoneBelow R j ks → NoneBelow R j (remove ks p)
  none_remove j [] zero n = n
  none_remove j [] (suc p) n = n
  none_remove j (i ∷ is) zero n = n.1
  none_remove j (i ∷ is) (suc p) n = (n.0, none_remove j is p n.1)

  none_behind : (ks : List K) (k : K) → Ascends R ks → lows R ks k ≡ 0 → NoneBelow R k ks
  none_behind [] k a z = tt
  none_behind (j ∷ js) k a z = go (is_lt (R j k)) refl z (none_behind js k a.1)
    where
      go : (b : Bool) → is_lt (R j k) ≡ b → cond b (suc (lows R js k)) (lows R js k) ≡ 0 → (lows R js k ≡ 0 → NoneBelow R k js) → NoneBelow R k (j ∷ js)
      go true e z ih = absurd (omega arith)
      go false e z ih = (not_under j k e, ih z)

  pub ascends_insert : (ks : List K) (p : ℕ) (k : K) → Ascends R ks → lows R ks k ≤ p → p ≤ tops R ks k → Ascends R (insert ks p k)
  ascends_insert ks zero k a le lt = (none_behind ks k a (omega arith), a)
  ascends_insert [] (suc p) k a le lt = absurd (omega arith)
  ascends_insert (j ∷ js) (suc p) k a le lt = go (R j k) refl le lt (ascends_insert js p k a.1)
    where
      go : (o : Ordering) → R j k ≡ o → cond (is_lt o) (suc (lows R js k)) (lows R js k) ≤ suc p → suc p ≤ cond (not (is_gt o)) (suc (tops R js k)) (tops R js k)
          → (lows R js k ≤ p → p ≤ tops R js k → Ascends R (insert js p k)) → Ascends R (j ∷ insert js p k)
      go Less e le lt ih = (none_insert j k js p (ap is_gt e) a.0, ih (omega arith) (omega arith))
      go Equal e le lt ih = let z = lows_rest j k js a.0 (ap is_lt e) in (none_insert j k js p (ap is_gt e) a.0, ih (omega arith) (omega arith))
      go Greater e le lt ih = let t = tops_rest j k js a.0 e in absurd (omega arith)

  pub ascends_remove : (ks : List K) (p : ℕ) → Ascends R ks → Ascends R (remove ks p)
  ascends_remove [] zero a = a
  ascends_remove [] (suc p) a = a
  ascends_remove (j ∷ js) zero a = a.1
  ascends_remove (j ∷ js) (suc p) a = (none_remove j js p a.0, ascends_remove js p a.1)

  none_drop : (j : K) (ks : List K) (b : ℕ) → NoneBelow R j ks → NoneBelow R j (drop b ks)
  none_drop j ks zero n = n
  none_drop j [] (suc b) n = n
  none_drop j (i ∷ is) (suc b) n = none_drop j is b n.1

  none_cut : (j : K) (ks : List K) (a b : ℕ) → a ≤ b → NoneBelow R j ks → NoneBelow R j (remove_range ks a b)
  none_cut j ks zero b le n = none_drop j ks b n
  none_cut j ks (suc a) zero le n = absurd (omega arith)
  none_cut j [] (suc a) (suc b) le n = n
  none_cut j (i ∷ is) (suc a) (suc b) le n = (n.0, none_cut j is a b (omega arith) n.1)

  ascends_drop : (ks : List K) (b : ℕ) → Ascends R ks → Ascends R (drop b ks)
  ascends_drop ks zero a = a
  ascends_drop [] (suc b) a = a
  ascends_drop (j ∷ js) (suc b) a = ascends_drop js b a.1

  pub ascends_cut : (ks : List K) (a b : ℕ) → a ≤ b → Ascends R ks → Ascends R (remove_range ks a b)
  ascends_cut ks zero b le s = ascends_drop ks b s
  ascends_cut ks (suc a) zero le s = absurd (omega arith)
  ascends_cut [] (suc a) (suc b) le s = s
  ascends_cut (j ∷ js) (suc a) (suc b) le s = (none_cut j js a b (omega arith) s.0, ascends_cut js a b (omega arith) s.1)

  -- the values after an edit
  pub values_insert : {V : Type 0} (ks : List K) (vs : List V) (p i : ℕ) (k : K) (v : V) → Ascends R ks → length ks ≡ length vs → p ≡ lows R ks k + i → p ≤ tops R ks k
      → (q : K) → values_beside R (insert ks p k) (insert vs p v) q ≡ cond (is_eq (R k q)) (insert (values_beside R ks vs k) i v) (values_beside R ks vs q)
  values_insert ks vs p i k v a n e le q = go (is_eq (R k q)) refl
    where
      go : (b : Bool) → is_eq (R k q) ≡ b → values_beside R (insert ks p k) (insert vs p v) q ≡ cond b (insert (values_beside R ks vs k) i v) (values_beside R ks vs q)
      go true h = values_tied (insert ks p k) (insert vs p v) k q (is_equal _ h) ∙ values_insert_here ks vs p i k v a n e le
      go false h = values_insert_other ks vs p k q v n (let z = tops_length ks k in omega arith) h

  pub values_cut : {V : Type 0} (ks : List K) (vs : List V) (k q : K) → Ascends R ks → length ks ≡ length vs
      → values_beside R (remove_range ks (lows R ks k) (tops R ks k)) (remove_range vs (lows R ks k) (tops R ks k)) q ≡ cond (is_eq (R k q)) [] (values_beside R ks vs q)
  values_cut {V} [] vs k q a n = go (is_eq (R k q))
    where
      go : (b : Bool) → [] ≡ cond b [] (values_beside R [] vs q)
      go true = refl
      go false = refl
  values_cut (j ∷ js) [] k q a n = absurd (omega arith)
  values_cut {V} (j ∷ js) (v ∷ vs) k q a n = go (R j k) refl (is_eq (R k q)) refl (values_cut js vs k q a.1 (omega arith))
    where
      untied : (o : Ordering) → R j k ≡ o → is_eq o ≡ false → is_eq (R k q) ≡ true → is_eq (R j q) ≡ false
      untied o r off h = ap is_eq (sym (alike_right total k q j (is_equal _ h)) ∙ r) ∙ off

      go : (o : Ordering) → R j k ≡ o → (b : Bool) → is_eq (R k q) ≡ b
          → values_beside R (remove_range js (lows R js k) (tops R js k)) (remove_range vs (lows R js k) (tops R js k)) q ≡ cond b [] (values_beside R js vs q)
          → values_beside R (remove_range (j ∷ js) (cond (is_lt o) (suc (lows R js k)) (lows R js k)) (cond (not (is_gt o)) (suc (tops R js k)) (tops R js k)))
          (remove_range (v ∷ vs) (cond (is_lt o) (suc (lows R js k)) (lows R js k)) (cond (not (is_gt o)) (suc (tops R js k)) (tops R js k))) q
          ≡ cond b [] (cond (is_eq (R j q)) (v ∷ values_beside R js vs q) (values_beside R js vs q))
      go Less r true h ih =
          let kept = values_beside R (remove_range js (lows R js k) (tops R js k)) (remove_range vs (lows R js k) (tops R js k)) q in
          ap (λ (c : Bool). cond c (v ∷ kept) kept) (untied Less r refl h) ∙ ih
      go Less r false h ih = ap (λ (l : List V). cond (is_eq (R j q)) (v ∷ l) l) ih
      go Equal r b h ih =
          let z : lows R js k ≡ 0 = lows_rest j k js a.0 (ap is_lt r) in
          let t = tops R js k in
          ap (λ (m : ℕ). values_beside R (take m (j ∷ js) ++ drop t js) (take m (v ∷ vs) ++ drop t vs) q) z
          ∙ (ap (λ (m : ℕ). values_beside R (take m js ++ drop t js) (take m vs ++ drop t vs) q) (sym z) ∙ (ih ∙ at b h))
        where
          at : (b : Bool) → is_eq (R k q) ≡ b → cond b [] (values_beside R js vs q) ≡ cond b [] (cond (is_eq (R j q)) (v ∷ values_beside R js vs q) (values_beside R js vs q))
          at true h = refl
          at false h = ap (λ (c : Bool). cond c (v ∷ values_beside R js vs q) (values_beside R js vs q)) (sym (ap is_eq (total.congr j k q r) ∙ h))
      go Greater r b h ih =
          let z : lows R js k ≡ 0 = lows_rest j k js a.0 (ap is_lt r) in
          let t : tops R js k ≡ 0 = tops_rest j k js a.0 r in
          (λ i. values_beside R (take (z i) (j ∷ js) ++ drop (t i) (j ∷ js)) (take (z i) (v ∷ vs) ++ drop (t i) (v ∷ vs)) q)
          ∙ at b h (sym (λ i. values_beside R (take (z i) js ++ drop (t i) js) (take (z i) vs ++ drop (t i) vs) q) ∙ ih)
        where
          at : (b : Bool) → is_eq (R k q) ≡ b → values_beside R js vs q ≡ cond b [] (values_beside R js vs q)
              → cond (is_eq (R j q)) (v ∷ values_beside R js vs q) (values_beside R js vs q) ≡ cond b [] (cond (is_eq (R j q)) (v ∷ values_beside R js vs q) (values_beside R js vs q))
          at true h none = ap (λ (c : Bool). cond c (v ∷ values_beside R js vs q) (values_beside R js vs q)) (untied Greater r refl h) ∙ none
          at false h none = refl

  pub values_remove : {V : Type 0} (ks : List K) (vs : List V) (p i : ℕ) (k : K) → Ascends R ks → length ks ≡ length vs → p ≡ lows R ks k + i → p < tops R ks k
      → (q : K) → values_beside R (remove ks p) (remove vs p) q ≡ cond (is_eq (R k q)) (remove (values_beside R ks vs k) i) (values_beside R ks vs q)
  values_remove ks vs p i k a n e lt q = go (is_eq (R k q)) refl
    where
      go : (b : Bool) → is_eq (R k q) ≡ b → values_beside R (remove ks p) (remove vs p) q ≡ cond b (remove (values_beside R ks vs k) i) (values_beside R ks vs q)
      go true h = values_tied (remove ks p) (remove vs p) k q (is_equal _ h) ∙ values_remove_here ks vs p i k a n e lt
      go false h = values_remove_other ks vs p q k n (let z = tops_length ks k in omega arith) (ap is_eq (total.congr _ k q (key_here ks p k k a (omega arith) lt)) ∙ h)

  pub values_set : {V : Type 0} (ks : List K) (vs : List V) (p i : ℕ) (k : K) (v : V) → Ascends R ks → length ks ≡ length vs → p ≡ lows R ks k + i → p < tops R ks k
      → (q : K) → values_beside R ks (set vs p v) q ≡ cond (is_eq (R k q)) (set (values_beside R ks vs k) i v) (values_beside R ks vs q)
  values_set ks vs p i k v a n e lt q = go (is_eq (R k q)) refl
    where
      go : (b : Bool) → is_eq (R k q) ≡ b → values_beside R ks (set vs p v) q ≡ cond b (set (values_beside R ks vs k) i v) (values_beside R ks vs q)
      go true h = values_tied ks (set vs p v) k q (is_equal _ h) ∙ values_set_here ks vs p i k v a n e lt
      go false h = values_set_other ks vs p q k v (let z = tops_length ks k in omega arith) (ap is_eq (total.congr _ k q (key_here ks p k k a (omega arith) lt)) ∙ h)
