-- What is left of a list after its last matches are removed one by one.
use Rattle.std.proofs.Common.{◌≡◌, ℕ, zero, suc, ◌+◌, ◌-◌, ◌<◌, ◌≤◌, Bool, true, false, cond, not, ◌&&◌, ◌||◌, List, [], ◌∷◌, ◌++◌, length, get_or, filter, Some, None, refl, sym, ◌∙◌, ap, arith}
use Rattle.std.specs.List.{list_any, count_by, remove}
use Rattle.std.proofs.lemmas.List.Sums.{sum_by-cons, sum_by_push, length-filter}
use Rattle.sorted_multimap.specs.LastMatches.{IsLastPlace, without_last, without_lasts}
use Rattle.teb_rules.proofs.lemmas.names.Bools.{or_true}

neither : (b c : Bool) → (b || c) ≡ false → (b ≡ false) × (c ≡ false)
neither true c h = absurd (cc)
neither false c h = (refl, h)

module _ {A : Type 0} (p : A → Bool) where
  none_any : (xs : List A) → ((k : ℕ) (d : A) → k < length xs → p (get_or xs k d) ≡ false) → list_any p xs ≡ false
  none_any [] h = refl
  none_any (x ∷ xs) h = λ j. h 0 x (omega arith) j || none_any xs (λ k d lt. h (suc k) d (omega arith)) j

  any_at : (xs : List A) (i : ℕ) (d : A) → i < length xs → p (get_or xs i d) ≡ true → list_any p xs ≡ true
  any_at [] i d lt h = absurd (omega arith)
  any_at (x ∷ xs) zero d lt h = ap (λ (b : Bool). b || list_any p xs) h
  any_at (x ∷ xs) (suc i) d lt h = ap (λ (b : Bool). p x || b) (any_at xs i d (omega arith) h) ∙ or_true (p x)

  pub without_none : (xs : List A) → list_any p xs ≡ false → without_last p xs ≡ xs
  without_none [] h = refl
  without_none (x ∷ xs) h = let two = neither (p x) (list_any p xs) h in λ j. cond (two.1 j) (x ∷ without_last p xs) (cond (two.0 j) xs (x ∷ xs))

  without_at : (xs : List A) (i : ℕ) → i < length xs → ((d : A) → p (get_or xs i d) ≡ true) → ((k : ℕ) (d : A) → i < k → k < length xs → p (get_or xs k d) ≡ false) → without_last p xs ≡ remove xs i
  without_at [] i lt at behind = absurd (omega arith)
  without_at (x ∷ xs) zero lt at behind = λ j. cond (none_any xs (λ k d lt. behind (suc k) d (omega arith) (omega arith)) j) (x ∷ without_last p xs) (cond (at x j) xs (x ∷ xs))
  without_at (x ∷ xs) (suc i) lt at behind =
      ap (λ (b : Bool). cond b (x ∷ without_last p xs) (cond (p x) xs (x ∷ xs))) (any_at xs i x (omega arith) (at x))
      ∙ ap (λ (ys : List A). x ∷ ys) (without_at xs i (omega arith) at (λ k d a b. behind (suc k) d (omega arith) (omega arith)))

  -- if the last match is at i, it is removed; if there is none, nothing is
  pub last_there : (xs : List A) (i : ℕ) → IsLastPlace p xs (Some i) → without_last p xs ≡ remove xs i
  last_there xs i h = without_at xs i h.0 h.1 h.2

  pub last_nowhere : (xs : List A) → IsLastPlace p xs None → without_last p xs ≡ xs
  last_nowhere xs h = without_none xs (none_any xs h)

  -- counts
  count_yes : (x : A) (xs : List A) → p x ≡ true → count_by p (x ∷ xs) ≡ suc (count_by p xs)
  count_yes x xs h = sum_by-cons (λ x. cond (p x) 1 0) x xs ∙ ap (λ (b : Bool). cond b 1 0 + count_by p xs) h ∙ omega arith

  count_no : (x : A) (xs : List A) → p x ≡ false → count_by p (x ∷ xs) ≡ count_by p xs
  count_no x xs h = sum_by-cons (λ x. cond (p x) 1 0) x xs ∙ ap (λ (b : Bool). cond b 1 0 + count_by p xs) h ∙ omega arith

  pub count_push : (c : Bool) (xs : List A) (x : A) → count_by p (cond c (xs ++ x ∷ []) xs) ≡ count_by p xs + cond (c && p x) 1 0
  count_push true xs x = sum_by_push (λ x. cond (p x) 1 0) xs x
  count_push false xs x = omega arith

  pub count_cons : (c : Bool) (x : A) (xs : List A) → count_by p (cond c (x ∷ xs) xs) ≡ count_by p xs + cond (c && p x) 1 0
  count_cons true x xs = sum_by-cons (λ x. cond (p x) 1 0) x xs ∙ omega arith
  count_cons false x xs = omega arith

  count_none : (xs : List A) → list_any p xs ≡ false → count_by p xs ≡ 0
  count_none [] h = refl
  count_none (x ∷ xs) h = let two = neither (p x) (list_any p xs) h in count_no x xs two.0 ∙ count_none xs two.1

  count_some : (xs : List A) → list_any p xs ≡ true → 0 < count_by p xs
  count_some [] h = absurd (cc)
  count_some (x ∷ xs) h = go (p x) refl h (count_some xs)
    where
      go : (b : Bool) → p x ≡ b → (b || list_any p xs) ≡ true → (list_any p xs ≡ true → 0 < count_by p xs) → 0 < count_by p (x ∷ xs)
      go true e h ih = omega (arith, count_yes x xs e)
      go false e h ih = omega (arith, count_no x xs e, ih h)

  count_last : (xs : List A) → count_by p (without_last p xs) ≡ count_by p xs - 1
  count_last [] = refl
  count_last (x ∷ xs) = go (list_any p xs) refl (p x) refl (count_last xs)
    where
      go : (a : Bool) → list_any p xs ≡ a → (b : Bool) → p x ≡ b → count_by p (without_last p xs) ≡ count_by p xs - 1 → count_by p (cond a (x ∷ without_last p xs) (cond b xs (x ∷ xs))) ≡ count_by p
          (x ∷ xs) - 1
      go true any true e ih = omega (arith, count_yes x xs e, count_yes x (without_last p xs) e, ih, count_some xs any)
      go true any false e ih = omega (arith, count_no x xs e, count_no x (without_last p xs) e, ih)
      go false any true e ih = omega (arith, count_yes x xs e)
      go false any false e ih = omega (arith, count_no x xs e, count_none xs any)

  -- elements that do not pass stay
  pub filter_last : (xs : List A) → filter (λ x. not (p x)) (without_last p xs) ≡ filter (λ x. not (p x)) xs
  filter_last [] = refl
  filter_last (x ∷ xs) = go (list_any p xs) (p x) refl (filter_last xs)
    where
      go : (a b : Bool) → p x ≡ b → filter (λ x. not (p x)) (without_last p xs) ≡ filter (λ x. not (p x)) xs → filter (λ x. not (p x)) (cond a (x ∷ without_last p xs) (cond b xs (x ∷ xs))) ≡ cond
          (not b) (x ∷ filter (λ x. not (p x)) xs) (filter (λ x. not (p x)) xs)
      go true b e ih = λ j. cond (not (e j)) (x ∷ ih j) (ih j)
      go false true e ih = refl
      go false false e ih = ap (λ (b : Bool). cond (not b) (x ∷ filter (λ x. not (p x)) xs) (filter (λ x. not (p x)) xs)) e

  filter_all : (xs : List A) → count_by p xs ≡ 0 → filter (λ x. not (p x)) xs ≡ xs
  filter_all [] h = refl
  filter_all (x ∷ xs) h = go (p x) refl (filter_all xs)
    where
      go : (b : Bool) → p x ≡ b → (count_by p xs ≡ 0 → filter (λ x. not (p x)) xs ≡ xs) → cond (not b) (x ∷ filter (λ x. not (p x)) xs) (filter (λ x. not (p x)) xs) ≡ x ∷ xs
      go true e ih = absurd (omega (arith, count_yes x xs e, h))
      go false e ih = ap (λ (ys : List A). x ∷ ys) (ih (sym (count_no x xs e) ∙ h))

  count_lasts : (n : ℕ) (xs : List A) → count_by p (without_lasts n p xs) ≡ count_by p xs - n
  count_lasts zero xs = omega arith
  count_lasts (suc n) xs = omega (arith, count_last (without_lasts n p xs), count_lasts n xs)

  filter_lasts : (n : ℕ) (xs : List A) → filter (λ x. not (p x)) (without_lasts n p xs) ≡ filter (λ x. not (p x)) xs
  filter_lasts zero xs = refl
  filter_lasts (suc n) xs = filter_last (without_lasts n p xs) ∙ filter_lasts n xs

  -- if at most n elements pass, removing the last n matches removes all that pass
  pub without_all : (n : ℕ) (xs : List A) → count_by p xs ≤ n → without_lasts n p xs ≡ filter (λ x. not (p x)) xs
  without_all n xs le = sym (filter_all (without_lasts n p xs) (omega (arith, count_lasts n xs))) ∙ filter_lasts n xs

  -- removing the last match and then n more removes n + 1
  pub lasts_after : (n : ℕ) (xs : List A) → without_lasts n p (without_last p xs) ≡ without_lasts (suc n) p xs
  lasts_after zero xs = refl
  lasts_after (suc n) xs = ap (without_last p) (lasts_after n xs)

  -- if p implies r, filtering by r keeps the number of elements that pass p
  pub count_kept : (r : A → Bool) (xs : List A) → ((x : A) → p x ≡ true → r x ≡ true) → count_by p (filter r xs) ≡ count_by p xs
  count_kept r [] f = refl
  count_kept r (x ∷ xs) f = go (r x) refl (p x) refl (count_kept r xs f)
    where
      go : (b : Bool) → r x ≡ b → (c : Bool) → p x ≡ c → count_by p (filter r xs) ≡ count_by p xs → count_by p (cond b (x ∷ filter r xs) (filter r xs)) ≡ count_by p (x ∷ xs)
      go true e true h ih = omega (arith, count_yes x xs h, count_yes x (filter r xs) h, ih)
      go true e false h ih = omega (arith, count_no x xs h, count_no x (filter r xs) h, ih)
      go false e true h ih = absurd (let z : true ≡ false = sym (f x h) ∙ e in cc)
      go false e false h ih = omega (arith, count_no x xs h, ih)

  -- removing a match lowers the number that pass by one; if none passes, nothing is removed
  pub fewer_pass : (xs : List A) (n : ℕ) → length (filter p xs) ≡ suc n → length (filter p (without_last p xs)) ≡ n
  fewer_pass xs n h = omega (arith, length-filter p xs, length-filter p (without_last p xs), count_last xs)

  pub none_left : (xs : List A) → length (filter p xs) ≡ 0 → filter (λ x. not (p x)) xs ≡ xs
  none_left xs h = filter_all xs (sym (length-filter p xs) ∙ h)
