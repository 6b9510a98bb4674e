-- Lists that ascend by a key: what a search finds in them, and the result of an edit at the found place.
use Rattle.std.proofs.Common.{◌≡◌, ◌≢◌, ℕ, zero, suc, ◌<◌, ◌≤◌, ◌-◌, Bool, true, false, cond, not, ltb, eqb, List, [], ◌∷◌, length, filter}
use Rattle.std.proofs.Common.{get_or, set, Result, Ok, Err, refl, sym, ◌∙◌, ap, subst, arith, lt-ltb, le-ltb, ◌⊎◌, inl, inr, eq-eqb}
use Rattle.std.specs.List.{insert, remove}
use Rattle.std.specs.List.Sorted.{IsSearchInRange, IsBinarySearchResult, IsNonDecreasingBy}
use Rattle.std.specs.Ordering.{nat_cmp, ordering_index}
use Rattle.std.proofs.lemmas.Cmp.{ranked}
use Rattle.std.proofs.lemmas.Bool.{ne_eqb, eqb-true, ltb-true, ltb-false}
use Rattle.std.proofs.lemmas.Bool.Decides.{nat_tests, eqb_tells}
use Rattle.teb_rules.proofs.lemmas.history.Comparisons.{ltb_tells}
use Rattle.teb_rules.specs.history.Ascending.{AllAbove, IsAscendingBy, next_place, place_of, put_by}

module _ {A : Type 0} (key : A → ℕ) where
  -- the place in x ∷ xs, by the three ways in which the key of x can compare with n
  pub place_below : (x : A) (xs : List A) (n : ℕ) → key x < n → place_of key (x ∷ xs) n ≡ next_place (place_of key xs n)
  place_below x xs n h = rw (lt-ltb (key x) n h) refl

  pub place_here : (x : A) (xs : List A) (n : ℕ) → key x ≡ n → place_of key (x ∷ xs) n ≡ Ok 0
  place_here x xs n h = rw (le-ltb (key x) n (omega arith), eq-eqb (key x) n h) refl

  pub place_above : (x : A) (xs : List A) (n : ℕ) → n < key x → place_of key (x ∷ xs) n ≡ Err 0
  place_above x xs n h = rw (le-ltb (key x) n (omega arith), ne_eqb (key x) n (λ e. omega arith)) refl

  above_at : (n : ℕ) (xs : List A) → AllAbove key n xs → (i : ℕ) (d : A) → i < length xs → n < key (get_or xs i d)
  above_at n [] h i d l = absurd (omega arith)
  above_at n (x ∷ xs) h zero d l = h.0
  above_at n (x ∷ xs) h (suc i) d l = above_at n xs h.1 i d (omega arith)

  keys_rise : (xs : List A) → IsAscendingBy key xs → (i j : ℕ) (d : A) → i ≤ j → j < length xs → key (get_or xs i d) ≤ key (get_or xs j d)
  keys_rise [] h i j d le l = absurd (omega arith)
  keys_rise (x ∷ xs) h zero zero d le l = omega arith
  keys_rise (x ∷ xs) h zero (suc j) d le l = let above = above_at (key x) xs h.0 j d (omega arith) in omega arith
  keys_rise (x ∷ xs) h (suc i) zero d le l = absurd (omega arith)
  keys_rise (x ∷ xs) h (suc i) (suc j) d le l = keys_rise xs h.1 i j d (omega arith) (omega arith)

  higher : (a b n : ℕ) → a ≤ b → ordering_index (nat_cmp a n) ≤ ordering_index (nat_cmp b n)
  higher a b n le = grind (arith, nat_tests)

  -- the comparisons with n are non-decreasing along the list, as a binary search requires
  comparisons_rise : (xs : List A) → IsAscendingBy key xs → (n : ℕ) → IsNonDecreasingBy (λ x. ordering_index (nat_cmp (key x) n)) xs
  comparisons_rise xs h n i j d le l = higher (key (get_or xs i d)) (key (get_or xs j d)) n (keys_rise xs h i j d le l)

  -- a key that is in the list is found at its place; any other belongs between the smaller and the greater keys
  pub found_at : (xs : List A) → IsAscendingBy key xs → (n i : ℕ) (d : A) → i < length xs → key (get_or xs i d) ≡ n → Ok i ≡ place_of key xs n
  found_at [] h n i d l e = absurd (omega arith)
  found_at (x ∷ xs) h n zero d l e = sym (place_here x xs n e)
  found_at (x ∷ xs) h n (suc i) d l e =
      let above = above_at (key x) xs h.0 i d (omega arith) in
      let below : key x < n = omega arith in
      ap next_place (found_at xs h.1 n i d (omega arith) e) ∙ sym (place_below x xs n below)

  gap_at : (xs : List A) (n i : ℕ) → i ≤ length xs → ((k : ℕ) (d : A) → k < i → key (get_or xs k d) < n) → ((k : ℕ) (d : A) → i ≤ k → k < length xs → n < key (get_or xs k d))
      → Err i ≡ place_of key xs n
  gap_at [] n i l below above = ap (λ (j : ℕ). Err j) (let e : i ≡ 0 = omega arith in e)
  gap_at (x ∷ xs) n zero l below above = sym (place_above x xs n (above zero x (omega arith) (omega arith)))
  gap_at (x ∷ xs) n (suc i) l below above =
      ap next_place (gap_at xs n i (omega arith) (λ k d lt. below (suc k) d (omega arith)) (λ k d le lt. above (suc k) d (omega arith) (omega arith)))
      ∙ sym (place_below x xs n (below zero x (omega arith)))

  -- the place of a key above all others is the end
  pub gap_end : (xs : List A) → IsAscendingBy key xs → (n : ℕ) → ((d : A) → 0 < length xs → key (get_or xs (length xs - 1) d) < n) → Err (length xs) ≡ place_of key xs n
  gap_end xs h n last =
      gap_at xs n (length xs) (omega arith)
      (λ k d lt. let rise = keys_rise xs h k (length xs - 1) d (omega arith) (omega arith) in let below = last d (omega arith) in omega arith)
      (λ k d le lt. absurd (omega arith))

  -- a binary search by key returns the place
  pub searched : (xs : List A) → IsAscendingBy key xs → (n : ℕ) (r : Result ℕ ℕ) → IsSearchInRange r (length xs) → IsBinarySearchResult (λ x. nat_cmp (key x) n) xs r → r ≡ place_of key xs n
  searched [] h n (Ok i) l e = absurd (omega arith)
  searched (x ∷ xs) h n (Ok i) l e = found_at (x ∷ xs) h n i x l (ranked _ n _ (sym (e x)))
  searched xs h n (Err i) l parted =
      let both = parted (comparisons_rise xs h n) in
      gap_at xs n i l (λ k d lt. ranked _ n _ (sym (both.0 k d (omega arith) lt))) (λ k d le lt. ranked _ n _ (sym (both.1 k d le lt)))

  -- the element at the place has the key
  pub place_in : (xs : List A) (n i : ℕ) → place_of key xs n ≡ Ok i → i < length xs
  place_in [] n i h = absurd (cc)
  place_in (x ∷ xs) n i h = go (ltb (key x) n) (eqb (key x) n) (place_of key xs n) (λ j e. place_in xs n j e) h
    where
      go : (b c : Bool) (r : Result ℕ ℕ) → ((j : ℕ) → r ≡ Ok j → j < length xs) → cond b (next_place r) (cond c (Ok 0) (Err 0)) ≡ Ok i → i < suc (length xs)
      go true c (Ok j) ih h = let l = ih j refl in let e : suc j ≡ i = cc in omega arith
      go true c (Err j) ih h = absurd (cc)
      go false true r ih h = let e : 0 ≡ i = cc in omega arith
      go false false r ih h = absurd (cc)

  pub key_in : (xs : List A) (n i : ℕ) (d : A) → place_of key xs n ≡ Ok i → key (get_or xs i d) ≡ n
  key_in [] n i d h = absurd (cc)
  key_in (x ∷ xs) n i d h = go (ltb (key x) n) (eqb (key x) n) refl (place_of key xs n) (λ j e. key_in xs n j d e) h
    where
      go : (b c : Bool) → eqb (key x) n ≡ c → (r : Result ℕ ℕ) → ((j : ℕ) → r ≡ Ok j → key (get_or xs j d) ≡ n) → cond b (next_place r) (cond c (Ok 0) (Err 0)) ≡ Ok i → key (get_or (x ∷ xs) i d) ≡ n
      go true c q (Ok j) ih h = let e : suc j ≡ i = cc in subst (λ (k : ℕ). key (get_or (x ∷ xs) k d) ≡ n) e (ih j refl)
      go true c q (Err j) ih h = absurd (cc)
      go false true q r ih h = let e : 0 ≡ i = cc in subst (λ (k : ℕ). key (get_or (x ∷ xs) k d) ≡ n) e (eqb-true _ _ q)
      go false false q r ih h = absurd (cc)

  pub gap_in : (xs : List A) (n i : ℕ) → place_of key xs n ≡ Err i → i ≤ length xs
  gap_in [] n i h = let e : 0 ≡ i = cc in omega arith
  gap_in (x ∷ xs) n i h = go (ltb (key x) n) (eqb (key x) n) (place_of key xs n) (λ j e. gap_in xs n j e) h
    where
      go : (b c : Bool) (r : Result ℕ ℕ) → ((j : ℕ) → r ≡ Err j → j ≤ length xs) → cond b (next_place r) (cond c (Ok 0) (Err 0)) ≡ Err i → i ≤ suc (length xs)
      go true c (Ok j) ih h = absurd (cc)
      go true c (Err j) ih h = let l = ih j refl in let e : suc j ≡ i = cc in omega arith
      go false true r ih h = absurd (cc)
      go false false r ih h = let e : 0 ≡ i = cc in omega arith

  -- if the key is found, an edit overwrites the element; if not, it inserts at the gap
  pub put-set : (a : A) (xs : List A) (i : ℕ) → place_of key xs (key a) ≡ Ok i → put_by key a xs ≡ set xs i a
  put-set a [] i h = absurd (cc)
  put-set a (x ∷ xs) i h = go (ltb (key x) (key a)) (eqb (key x) (key a)) (place_of key xs (key a)) (λ j e. put-set a xs j e) h
    where
      go : (b c : Bool) (r : Result ℕ ℕ) → ((j : ℕ) → r ≡ Ok j → put_by key a xs ≡ set xs j a) → cond b (next_place r) (cond c (Ok 0) (Err 0)) ≡ Ok i
          → cond b (x ∷ put_by key a xs) (a ∷ cond c xs (x ∷ xs)) ≡ set (x ∷ xs) i a
      go true c (Ok j) ih h = let e : suc j ≡ i = cc in subst (λ (k : ℕ). x ∷ put_by key a xs ≡ set (x ∷ xs) k a) e (ap (λ (ys : List A). x ∷ ys) (ih j refl))
      go true c (Err j) ih h = absurd (cc)
      go false true r ih h = let e : 0 ≡ i = cc in subst (λ (k : ℕ). a ∷ xs ≡ set (x ∷ xs) k a) e refl
      go false false r ih h = absurd (cc)

  pub put-insert : (a : A) (xs : List A) (i : ℕ) → place_of key xs (key a) ≡ Err i → put_by key a xs ≡ insert xs i a
  put-insert a [] i h = let e : 0 ≡ i = cc in subst (λ (k : ℕ). a ∷ [] ≡ insert [] k a) e refl
  put-insert a (x ∷ xs) i h = go (ltb (key x) (key a)) (eqb (key x) (key a)) (place_of key xs (key a)) (λ j e. put-insert a xs j e) h
    where
      go : (b c : Bool) (r : Result ℕ ℕ) → ((j : ℕ) → r ≡ Err j → put_by key a xs ≡ insert xs j a) → cond b (next_place r) (cond c (Ok 0) (Err 0)) ≡ Err i
          → cond b (x ∷ put_by key a xs) (a ∷ cond c xs (x ∷ xs)) ≡ insert (x ∷ xs) i a
      go true c (Ok j) ih h = absurd (cc)
      go true c (Err j) ih h = let e : suc j ≡ i = cc in subst (λ (k : ℕ). x ∷ put_by key a xs ≡ insert (x ∷ xs) k a) e (ap (λ (ys : List A). x ∷ ys) (ih j refl))
      go false true r ih h = absurd (cc)
      go false false r ih h = let e : 0 ≡ i = cc in subst (λ (k : ℕ). a ∷ x ∷ xs ≡ insert (x ∷ xs) k a) e refl

  -- setting an element that was just inserted is the same as inserting the new value
  pub set-insert : (xs : List A) (i : ℕ) (a b : A) → i ≤ length xs → set (insert xs i a) i b ≡ insert xs i b
  set-insert [] zero a b l = refl
  set-insert [] (suc i) a b l = absurd (omega arith)
  set-insert (x ∷ xs) zero a b l = refl
  set-insert (x ∷ xs) (suc i) a b l = ap (λ (ys : List A). x ∷ ys) (set-insert xs i a b (omega arith))

  -- putting an element that is already in the list changes nothing, if elements with equal keys are equal
  pub put-same : (a : A) → ((x : A) → key x ≡ key a → x ≡ a) → (xs : List A) (i : ℕ) → place_of key xs (key a) ≡ Ok i → xs ≡ put_by key a xs
  put-same a one [] i h = absurd (cc)
  put-same a one (x ∷ xs) i h = go (ltb (key x) (key a)) (eqb (key x) (key a)) refl (place_of key xs (key a)) (λ j e. put-same a one xs j e) h
    where
      go : (b c : Bool) → eqb (key x) (key a) ≡ c → (r : Result ℕ ℕ) → ((j : ℕ) → r ≡ Ok j → xs ≡ put_by key a xs) → cond b (next_place r) (cond c (Ok 0) (Err 0)) ≡ Ok i
          → x ∷ xs ≡ cond b (x ∷ put_by key a xs) (a ∷ cond c xs (x ∷ xs))
      go true c q (Ok j) ih h = ap (λ (ys : List A). x ∷ ys) (ih j refl)
      go true c q (Err j) ih h = absurd (cc)
      go false true q r ih h = ap (λ (y : A). y ∷ xs) (one x (eqb-true _ _ q))
      go false false q r ih h = absurd (cc)

  above-put : (n : ℕ) (a : A) (xs : List A) → n < key a → AllAbove key n xs → AllAbove key n (put_by key a xs)
  above-put n a [] l h = (l, tt)
  above-put n a (x ∷ xs) l h = go (ltb (key x) (key a)) (eqb (key x) (key a)) (above-put n a xs l h.1)
    where
      go : (b c : Bool) → AllAbove key n (put_by key a xs) → AllAbove key n (cond b (x ∷ put_by key a xs) (a ∷ cond c xs (x ∷ xs)))
      go true c ih = (h.0, ih)
      go false true ih = (l, h.1)
      go false false ih = (l, h)

  pub above-mono : (m n : ℕ) (xs : List A) → m ≤ n → AllAbove key n xs → AllAbove key m xs
  above-mono m n [] l h = tt
  above-mono m n (x ∷ xs) l h = (omega (arith, h.0), above-mono m n xs l h.1)

  -- an edit keeps the list ascending
  pub ascending-put : (a : A) (xs : List A) → IsAscendingBy key xs → IsAscendingBy key (put_by key a xs)
  ascending-put a [] h = (tt, tt)
  ascending-put a (x ∷ xs) h = go (ltb_tells (key x) (key a)) (eqb_tells (key x) (key a)) (ascending-put a xs h.1)
    where
      go : ((ltb (key x) (key a) ≡ true) × (key x < key a)) ⊎ ((ltb (key x) (key a) ≡ false) × (key a ≤ key x)) → ((eqb (key x) (key a) ≡ true) × (key x ≡ key a))
          ⊎ ((eqb (key x) (key a) ≡ false) × (key x ≢ key a))
          → IsAscendingBy key (put_by key a xs) → IsAscendingBy key (put_by key a (x ∷ xs))
      go (inl p) q ih = rw p.0 (above-put (key x) a xs p.1 h.0, ih)
      go (inr p) (inl q) ih = rw (p.0, q.0) (above-mono (key a) (key x) xs p.1 h.0, h.1)
      go (inr p) (inr q) ih = rw (p.0, q.0) ((let l : key a < key x = omega (arith, p.1, q.1) in l, above-mono (key a) (key x) xs p.1 h.0), h)

  pub above-filter : (n : ℕ) (p : A → Bool) (xs : List A) → AllAbove key n xs → AllAbove key n (filter p xs)
  above-filter n p [] h = tt
  above-filter n p (x ∷ xs) h = go (p x) (above-filter n p xs h.1)
    where
      go : (b : Bool) → AllAbove key n (filter p xs) → AllAbove key n (cond b (x ∷ filter p xs) (filter p xs))
      go true ih = (h.0, ih)
      go false ih = ih

  pub ascending-filter : (p : A → Bool) (xs : List A) → IsAscendingBy key xs → IsAscendingBy key (filter p xs)
  ascending-filter p [] h = tt
  ascending-filter p (x ∷ xs) h = go (p x) (ascending-filter p xs h.1)
    where
      go : (b : Bool) → IsAscendingBy key (filter p xs) → IsAscendingBy key (cond b (x ∷ filter p xs) (filter p xs))
      go true ih = (above-filter (key x) p xs h.0, ih)
      go false ih = ih

  -- elements above n have other keys
  filter-others : (n : ℕ) (xs : List A) → AllAbove key n xs → xs ≡ filter (λ x. not (eqb (key x) n)) xs
  filter-others n [] h = refl
  filter-others n (x ∷ xs) h = let l = h.0 in rw (ne_eqb (key x) n (λ e. omega arith)) (ap (λ (ys : List A). x ∷ ys) (filter-others n xs h.1))

  -- removing a key filters it out: if it is found, one element is removed; if not, no element has the key
  pub remove-filter : (xs : List A) → IsAscendingBy key xs → (n i : ℕ) → place_of key xs n ≡ Ok i → remove xs i ≡ filter (λ x. not (eqb (key x) n)) xs
  remove-filter [] a n i h = absurd (cc)
  remove-filter (x ∷ xs) a n i h = go (ltb (key x) n) refl (eqb (key x) n) refl (place_of key xs n) (λ j e. remove-filter xs a.1 n j e) h
    where
      go : (b : Bool) → ltb (key x) n ≡ b → (c : Bool) → eqb (key x) n ≡ c → (r : Result ℕ ℕ) → ((j : ℕ) → r ≡ Ok j → remove xs j ≡ filter (λ x. not (eqb (key x) n)) xs)
          → cond b (next_place r) (cond c (Ok 0) (Err 0)) ≡ Ok i
          → remove (x ∷ xs) i ≡ cond (not c) (x ∷ filter (λ x. not (eqb (key x) n)) xs) (filter (λ x. not (eqb (key x) n)) xs)
      go true p true q r ih h = absurd (omega (arith, ltb-true _ _ p, eqb-true _ _ q))
      go true p false q (Ok j) ih h = let e : suc j ≡ i = cc in subst (λ (k : ℕ). remove (x ∷ xs) k ≡ x ∷ filter (λ x. not (eqb (key x) n)) xs) e (ap (λ (ys : List A). x ∷ ys) (ih j refl))
      go true p false q (Err j) ih h = absurd (cc)
      go false p true q r ih h =
          let e : 0 ≡ i = cc in
          subst (λ (k : ℕ). remove (x ∷ xs) k ≡ filter (λ x. not (eqb (key x) n)) xs) e (filter-others n xs (subst (λ (m : ℕ). AllAbove key m xs) (eqb-true _ _ q) a.0))
      go false p false q r ih h = absurd (cc)

  pub gap-filter : (xs : List A) → IsAscendingBy key xs → (n i : ℕ) → place_of key xs n ≡ Err i → xs ≡ filter (λ x. not (eqb (key x) n)) xs
  gap-filter [] a n i h = refl
  gap-filter (x ∷ xs) a n i h = go (ltb (key x) n) refl (eqb (key x) n) refl (place_of key xs n) (λ j e. gap-filter xs a.1 n j e) h
    where
      go : (b : Bool) → ltb (key x) n ≡ b → (c : Bool) → eqb (key x) n ≡ c → (r : Result ℕ ℕ) → ((j : ℕ) → r ≡ Err j → xs ≡ filter (λ x. not (eqb (key x) n)) xs)
          → cond b (next_place r) (cond c (Ok 0) (Err 0)) ≡ Err i
          → x ∷ xs ≡ cond (not c) (x ∷ filter (λ x. not (eqb (key x) n)) xs) (filter (λ x. not (eqb (key x) n)) xs)
      go true p true q r ih h = absurd (omega (arith, ltb-true _ _ p, eqb-true _ _ q))
      go true p false q (Ok j) ih h = absurd (cc)
      go true p false q (Err j) ih h = ap (λ (ys : List A). x ∷ ys) (ih j refl)
      go false p true q r ih h = absurd (cc)
      go false p false q r ih h = ap (λ (ys : List A). x ∷ ys) (filter-others n xs (above-mono n (key x) xs (ltb-false _ _ p) a.0))

  -- tests that agree on the elements above n select the same ones from them
  filter-above : (n : ℕ) (p q : A → Bool) → ((x : A) → n < key x → q x ≡ p x) → (xs : List A) → AllAbove key n xs → filter q xs ≡ filter p xs
  filter-above n p q same [] h = refl
  filter-above n p q same (x ∷ xs) h = λ j. cond (same x h.0 j) (x ∷ filter-above n p q same xs h.1 j) (filter-above n p q same xs h.1 j)

  put-front : (a : A) (xs : List A) → AllAbove key (key a) xs → put_by key a xs ≡ a ∷ xs
  put-front a [] h = refl
  put-front a (x ∷ xs) h = let l = h.0 in rw (le-ltb (key x) (key a) (omega arith), ne_eqb (key x) (key a) (λ e. omega arith)) refl

  -- the filtered list if a now passes and no other element changes
  pub filter-put_in : (a : A) (p q : A → Bool) → q a ≡ true → ((x : A) → key x ≢ key a → q x ≡ p x) → ((x : A) → key x ≡ key a → x ≡ a) → (xs : List A) → IsAscendingBy key xs
      → filter q (put_by key a xs) ≡ put_by key a (filter p xs)
  filter-put_in a p q here same one [] h = rw here refl
  filter-put_in a p q here same one (x ∷ xs) h = go (ltb_tells (key x) (key a)) (eqb_tells (key x) (key a)) (filter-put_in a p q here same one xs h.1)
    where
      above : key a ≤ key x → (y : A) → key x < key y → q y ≡ p y
      above le y l = same y (λ e. omega arith)

      smaller : key x < key a → (b : Bool) → filter q (put_by key a xs) ≡ put_by key a (filter p xs) → cond b (x ∷ filter q (put_by key a xs)) (filter q (put_by key a xs)) ≡ put_by key a
          (cond b (x ∷ filter p xs) (filter p xs))
      smaller l true ih = ap (λ (ys : List A). x ∷ ys) ih ∙ rw (lt-ltb (key x) (key a) l) refl
      smaller l false ih = ih

      equal : key x ≡ key a → (b : Bool) → a ∷ filter p xs ≡ put_by key a (cond b (x ∷ filter p xs) (filter p xs))
      equal e true = rw (le-ltb (key x) (key a) (omega arith), eq-eqb (key x) (key a) e) refl
      equal e false = sym (put-front a (filter p xs) (above-mono (key a) (key x) (filter p xs) (omega arith) (above-filter (key x) p xs h.0)))

      greater : key a < key x → (b : Bool) → a ∷ cond b (x ∷ filter p xs) (filter p xs) ≡ put_by key a (cond b (x ∷ filter p xs) (filter p xs))
      greater l true = rw (le-ltb (key x) (key a) (omega arith), ne_eqb (key x) (key a) (λ e. omega arith)) refl
      greater l false = sym (put-front a (filter p xs) (above-mono (key a) (key x) (filter p xs) (omega arith) (above-filter (key x) p xs h.0)))

      go : ((ltb (key x) (key a) ≡ true) × (key x < key a)) ⊎ ((ltb (key x) (key a) ≡ false) × (key a ≤ key x)) → ((eqb (key x) (key a) ≡ true) × (key x ≡ key a))
          ⊎ ((eqb (key x) (key a) ≡ false) × (key x ≢ key a))
          → filter q (put_by key a xs) ≡ put_by key a (filter p xs) → filter q (put_by key a (x ∷ xs)) ≡ put_by key a (filter p (x ∷ xs))
      go (inl l) e ih =
          ap (λ (b : Bool). filter q (cond b (x ∷ put_by key a xs) (a ∷ cond (eqb (key x) (key a)) xs (x ∷ xs)))) l.0
          ∙ ap (λ (b : Bool). cond b (x ∷ filter q (put_by key a xs)) (filter q (put_by key a xs))) (same x (λ e. omega (arith, l.1)))
          ∙ smaller l.1 (p x) ih
      go (inr l) (inl e) ih =
          (λ j. filter q (cond (l.0 j) (x ∷ put_by key a xs) (a ∷ cond (e.0 j) xs (x ∷ xs))))
          ∙ ap (λ (b : Bool). cond b (a ∷ filter q xs) (filter q xs)) here
          ∙ ap (λ (ys : List A). a ∷ ys) (filter-above (key x) p q (above l.1) xs h.0)
          ∙ equal e.1 (p x)
      go (inr l) (inr e) ih =
          (λ j. filter q (cond (l.0 j) (x ∷ put_by key a xs) (a ∷ cond (e.0 j) xs (x ∷ xs))))
          ∙ ap (λ (b : Bool). cond b (a ∷ filter q (x ∷ xs)) (filter q (x ∷ xs))) here
          ∙ (λ j. a ∷ cond (same x e.1 j) (x ∷ filter-above (key x) p q (above l.1) xs h.0 j) (filter-above (key x) p q (above l.1) xs h.0 j))
          ∙ greater (omega (arith, l.1, e.1)) (p x)

  filter-put_out : (a : A) (q : A → Bool) → q a ≡ false → ((x : A) → key x ≡ key a → x ≡ a) → (xs : List A) → filter q (put_by key a xs) ≡ filter q xs
  filter-put_out a q gone one [] = rw gone refl
  filter-put_out a q gone one (x ∷ xs) = go (ltb (key x) (key a)) (eqb (key x) (key a)) refl (filter-put_out a q gone one xs)
    where
      go : (b c : Bool) → eqb (key x) (key a) ≡ c → filter q (put_by key a xs) ≡ filter q xs → filter q (cond b (x ∷ put_by key a xs) (a ∷ cond c xs (x ∷ xs))) ≡ filter q (x ∷ xs)
      go true c e ih = ap (λ (ys : List A). cond (q x) (x ∷ ys) ys) ih
      go false true e ih = ap (λ (b : Bool). cond b (a ∷ filter q xs) (filter q xs)) gone ∙ ap (λ (b : Bool). cond b (x ∷ filter q xs) (filter q xs)) (sym (ap q (one x (eqb-true _ _ e)) ∙ gone))
      go false false e ih = ap (λ (b : Bool). cond b (a ∷ filter q (x ∷ xs)) (filter q (x ∷ xs))) gone

  filter-without : (a : A) (p q : A → Bool) → q a ≡ false → ((x : A) → key x ≢ key a → q x ≡ p x) → ((x : A) → key x ≡ key a → x ≡ a) → (xs : List A)
      → filter q xs ≡ filter (λ x. not (eqb (key x) (key a))) (filter p xs)
  filter-without a p q gone same one [] = refl
  filter-without a p q gone same one (x ∷ xs) = go (eqb_tells (key x) (key a)) (p x) refl (filter-without a p q gone same one xs)
    where
      go : ((eqb (key x) (key a) ≡ true) × (key x ≡ key a)) ⊎ ((eqb (key x) (key a) ≡ false) × (key x ≢ key a)) → (b : Bool) → p x ≡ b → filter q xs ≡ filter (λ x. not (eqb (key x) (key a)))
          (filter p xs)
          → cond (q x) (x ∷ filter q xs) (filter q xs) ≡ filter (λ x. not (eqb (key x) (key a))) (cond b (x ∷ filter p xs) (filter p xs))
      go (inl e) true r ih = ap (λ (b : Bool). cond b (x ∷ filter q xs) (filter q xs)) (ap q (one x e.1) ∙ gone) ∙ ih ∙ rw e.0 refl
      go (inl e) false r ih = ap (λ (b : Bool). cond b (x ∷ filter q xs) (filter q xs)) (ap q (one x e.1) ∙ gone) ∙ ih
      go (inr e) true r ih = ap (λ (b : Bool). cond b (x ∷ filter q xs) (filter q xs)) (same x e.1 ∙ r) ∙ ap (λ (ys : List A). x ∷ ys) ih ∙ rw e.0 refl
      go (inr e) false r ih = ap (λ (b : Bool). cond b (x ∷ filter q xs) (filter q xs)) (same x e.1 ∙ r) ∙ ih

  -- the filtered list if a does not pass and no other element changes
  pub filter-put_away : (a : A) (p q : A → Bool) → q a ≡ false → ((x : A) → key x ≢ key a → q x ≡ p x) → ((x : A) → key x ≡ key a → x ≡ a) → (xs : List A)
      → filter q (put_by key a xs) ≡ filter (λ x. not (eqb (key x) (key a))) (filter p xs)
  filter-put_away a p q gone same one xs = filter-put_out a q gone one xs ∙ filter-without a p q gone same one xs
