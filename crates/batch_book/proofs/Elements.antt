-- Elements of lists.
use Rattle.std.proofs.Common.{◌≡◌, ◌⊎◌, ℕ, suc, ◌<◌, Bool, true, false, cond, ◌||◌, eqb, ltb, List, [], ◌∷◌, ◌++◌, filter, find, map, get_or}
use Rattle.std.proofs.Common.{Option, Some, None, is_some, Result, Ok, Err, refl, sym, ◌∙◌, ap, subst, inl, inr, arith, ltb-true, ltb-false}
use Rattle.std.specs.List.{All, list_any}
use Rattle.std.specs.Option.{option_map, IsSome}
use Rattle.std.proofs.lemmas.Bool.{cases_Bool, ne_eqb, or_cases, or_left, or_right, or_parts}
use Rattle.std.proofs.lemmas.List.Elements.{All-head, All-tail}
use Rattle.teb_rules.specs.history.Ascending.{AllAbove, IsAscendingBy, next_place, place_of}
use Rattle.batch_book.specs.Book.{AllBelow}
use Rattle.batch_book.specs.Fields.{Has}

abbrev zero_ok : Result ℕ ℕ
zero_ok = Ok 0

abbrev zero_err : Result ℕ ℕ
zero_err = Err 0

module _ {A : Type 0} where
  pub Has-append_cases : (x : A) (xs ys : List A) → Has x (xs ++ ys) → Has x xs ⊎ Has x ys
  unfolding Has
  Has-append_cases x [] ys h = inr h
  Has-append_cases x (y ∷ xs) ys h = elim h [ inl q ↦ inl (inl q) | inr j ↦ elim (Has-append_cases x xs ys j) [ inl k ↦ inl (inr k) | inr k ↦ inr k ] ]

  pub Has-push_cases : (x y : A) (xs : List A) → Has x (xs ++ y ∷ []) → Has x xs ⊎ (y ≡ x)
  unfolding Has
  Has-push_cases x y xs h = elim (Has-append_cases x xs (y ∷ []) h) [ inl k ↦ inl k | inr k ↦ elim k [ inl q ↦ inr q | inr j ↦ absurd j ] ]

  pub Has-append_left : (x : A) (xs ys : List A) → Has x xs → Has x (xs ++ ys)
  unfolding Has
  Has-append_left x [] ys h = absurd h
  Has-append_left x (y ∷ xs) ys h = elim h [ inl q ↦ inl q | inr j ↦ inr (Has-append_left x xs ys j) ]

  pub Has-push : (x : A) (xs : List A) → Has x (xs ++ x ∷ [])
  unfolding Has
  Has-push x [] = inl refl
  Has-push x (y ∷ xs) = inr (Has-push x xs)

  pub filter-Has : (p : A → Bool) (x : A) (xs : List A) → Has x (filter p xs) → Has x xs × (p x ≡ true)
  unfolding Has
  filter-Has p x [] h = absurd h
  filter-Has p x (y ∷ xs) h = go (p y) refl h (filter-Has p x xs)
    where
      go : (b : Bool) → p y ≡ b → Has x (cond b (y ∷ filter p xs) (filter p xs)) → (Has x (filter p xs) → Has x xs × (p x ≡ true)) → Has x (y ∷ xs) × (p x ≡ true)
      go true e k ih = elim k [ inl q ↦ (inl q, subst (λ (z : A). p z ≡ true) q e) | inr j ↦ (let r = ih j in (inr r.0, r.1)) ]
      go false e k ih = let r = ih k in (inr r.0, r.1)

  pub Has-filter : (p : A → Bool) (x : A) (xs : List A) → Has x xs → p x ≡ true → Has x (filter p xs)
  unfolding Has
  Has-filter p x [] h e = absurd h
  Has-filter p x (y ∷ xs) h e = elim h [
    | inl q ↦ here (p y) (subst (λ (z : A). p z ≡ true) (sym q) e) q
    | inr j ↦ there (p y) (Has-filter p x xs j e)
  ]
    where
      here : (b : Bool) → b ≡ true → y ≡ x → Has x (cond b (y ∷ filter p xs) (filter p xs))
      here true d q = inl q
      here false d q = absurd (cc)

      there : (b : Bool) → Has x (filter p xs) → Has x (cond b (y ∷ filter p xs) (filter p xs))
      there true k = inr k
      there false k = k

  pub found_Has : (p : A → Bool) (x : A) (xs : List A) → find p xs ≡ Some x → Has x xs × (p x ≡ true)
  unfolding Has
  found_Has p x [] h = absurd (cc)
  found_Has p x (y ∷ xs) h = go (p y) refl h (found_Has p x xs)
    where
      go : (b : Bool) → p y ≡ b → cond b (Some y) (find p xs) ≡ Some x → (find p xs ≡ Some x → Has x xs × (p x ≡ true)) → Has x (y ∷ xs) × (p x ≡ true)
      go true e k ih = let q : y ≡ x = cc in (inl q, subst (λ (z : A). p z ≡ true) q e)
      go false e k ih = let r = ih k in (inr r.0, r.1)

  pub unfound_Has : (p : A → Bool) (x : A) (xs : List A) → find p xs ≡ None → Has x xs → p x ≡ false
  unfolding Has
  unfound_Has p x [] h k = absurd k
  unfound_Has p x (y ∷ xs) h k = go (p y) refl h (unfound_Has p x xs)
    where
      go : (b : Bool) → p y ≡ b → cond b (Some y) (find p xs) ≡ None → (find p xs ≡ None → Has x xs → p x ≡ false) → p x ≡ false
      go true e h ih = absurd (cc)
      go false e h ih = elim k [ inl q ↦ subst (λ (z : A). p z ≡ false) q e | inr j ↦ ih h j ]

  pub find_agree : (p q : A → Bool) (xs : List A) → ((x : A) → Has x xs → p x ≡ q x) → find p xs ≡ find q xs
  unfolding Has
  find_agree p q [] f = refl
  find_agree p q (x ∷ xs) f = λ i. cond (f x (inl refl) i) (Some x) (find_agree p q xs (λ y h. f y (inr h)) i)

  pub All-Has : (P : A → Type 0) (x : A) (xs : List A) → All P xs → Has x xs → P x
  unfolding Has
  All-Has P x [] a h = absurd h
  All-Has P x (y ∷ xs) a h = elim h [ inl q ↦ subst P q (All-head P y xs a) | inr j ↦ All-Has P x xs (All-tail P y xs a) j ]

  pub any_Has : (p : A → Bool) (xs : List A) → list_any p xs ≡ true → (x : A) × Has x xs × (p x ≡ true)
  unfolding Has
  any_Has p [] h = absurd (cc)
  any_Has p (y ∷ xs) h = elim (or_cases (p y) (list_any p xs) h) [ inl t ↦ (y, inl refl, t) | inr t ↦ (let r = any_Has p xs t in (r.0, inr r.1, r.2)) ]

  pub Has-any : (p : A → Bool) (x : A) (xs : List A) → Has x xs → p x ≡ true → list_any p xs ≡ true
  unfolding Has
  Has-any p x [] h e = absurd h
  Has-any p x (y ∷ xs) h e = elim h [ inl q ↦ or_left _ (list_any p xs) (subst (λ (z : A). p z ≡ true) (sym q) e) | inr j ↦ or_right (p y) _ (Has-any p x xs j e) ]

  pub none_Has : (p : A → Bool) (x : A) (xs : List A) → list_any p xs ≡ false → Has x xs → p x ≡ false
  unfolding Has
  none_Has p x [] h k = absurd k
  none_Has p x (y ∷ xs) h k = let r = or_parts (p y) (list_any p xs) h in elim k [ inl q ↦ subst (λ (z : A). p z ≡ false) q r.0 | inr j ↦ none_Has p x xs r.1 j ]

  pub Has-none : (p : A → Bool) (xs : List A) → ((x : A) → Has x xs → p x ≡ false) → list_any p xs ≡ false
  unfolding Has
  Has-none p [] f = refl
  Has-none p (y ∷ xs) f = λ i. f y (inl refl) i || Has-none p xs (λ x h. f x (inr h)) i

  -- a list stays ascending if a greater element is appended
  above_push : (key : A → ℕ) (n : ℕ) (a : A) (xs : List A) → AllAbove key n xs → n < key a → AllAbove key n (xs ++ a ∷ [])
  above_push key n a [] h l = (l, tt)
  above_push key n a (x ∷ xs) h l = (h.0, above_push key n a xs h.1 l)

  pub ascending_push : (key : A → ℕ) (a : A) (xs : List A) → IsAscendingBy key xs → AllBelow key (key a) xs → IsAscendingBy key (xs ++ a ∷ [])
  ascending_push key a [] h b = (tt, tt)
  ascending_push key a (x ∷ xs) h b = (above_push key (key x) a xs h.0 b.0, ascending_push key a xs h.1 b.1)

  above_Has : (key : A → ℕ) (n : ℕ) (x : A) (xs : List A) → AllAbove key n xs → Has x xs → n < key x
  unfolding Has
  above_Has key n x [] a h = absurd h
  above_Has key n x (y ∷ xs) a h = elim h [ inl q ↦ subst (λ (z : A). n < key z) q a.0 | inr j ↦ above_Has key n x xs a.1 j ]

  -- an ascending list has at most one element with each key
  pub one_Has : (key : A → ℕ) (x y : A) (xs : List A) → IsAscendingBy key xs → Has x xs → Has y xs → key x ≡ key y → x ≡ y
  unfolding Has
  one_Has key x y [] a h k e = absurd h
  one_Has key x y (z ∷ xs) a h k e = elim h [
    | inl p ↦ elim k [
      | inl q ↦ sym p ∙ q
      | inr j ↦ absurd (let l = above_Has key (key z) y xs a.0 j in let r = ap key p in omega arith)
    ]
    | inr i ↦ elim k [
      | inl q ↦ absurd (let l = above_Has key (key z) x xs a.0 i in let r = ap key q in omega arith)
      | inr j ↦ one_Has key x y xs a.1 i j e
    ]
  ]

  -- the place that a search finds holds the element with the key
  pub placed : (key : A → ℕ) (n i : ℕ) (d : A) (xs : List A) → place_of key xs n ≡ Ok i → find (λ x. eqb (key x) n) xs ≡ Some (get_or xs i d)
  placed key n i d [] h = absurd (cc)
  placed key n i d (x ∷ xs) h = elim (cases_Bool (ltb (key x) n)) [
    | inl t ↦ (let l = ltb-true _ _ t in rw (ne_eqb (key x) n (λ q. absurd (omega arith))) (later (place_of key xs n) (λ j e. placed key n j d xs e) (rw t at h)))
    | inr f ↦ (elim (cases_Bool (eqb (key x) n)) [
      | inl e ↦ rw e (first (rw (f, e) at h))
      | inr e ↦ absurd (never (rw (f, e) at h))
    ])
  ]
    where
      later : (r : Result ℕ ℕ) → ((j : ℕ) → r ≡ Ok j → find (λ x. eqb (key x) n) xs ≡ Some (get_or xs j d)) → next_place r ≡ Ok i → find (λ x. eqb (key x) n) xs ≡ Some (get_or (x ∷ xs) i d)
      later (Ok j) ih h = let e : suc j ≡ i = cc in subst (λ (k : ℕ). find (λ x. eqb (key x) n) xs ≡ Some (get_or (x ∷ xs) k d)) e (ih j refl)
      later (Err j) ih h = absurd (cc)

      first : zero_ok ≡ Ok i → Some x ≡ Some (get_or (x ∷ xs) i d)
      first h = let e : 0 ≡ i = cc in subst (λ (k : ℕ). Some x ≡ Some (get_or (x ∷ xs) k d)) e refl

      never : zero_err ≡ Ok i → ⊥
      never h = cc

  pub unplaced : (key : A → ℕ) (n i : ℕ) (xs : List A) → IsAscendingBy key xs → place_of key xs n ≡ Err i → find (λ x. eqb (key x) n) xs ≡ None
  unplaced key n i [] a h = refl
  unplaced key n i (x ∷ xs) a h = elim (cases_Bool (ltb (key x) n)) [
    | inl t ↦ (let l = ltb-true _ _ t in rw (ne_eqb (key x) n (λ q. absurd (omega arith))) (later (place_of key xs n) (λ j e. unplaced key n j xs a.1 e) (rw t at h)))
    | inr f ↦ (elim (cases_Bool (eqb (key x) n)) [
      | inl e ↦ absurd (never (rw (f, e) at h))
      | inr e ↦ rw e (none xs (higher f) a.0)
    ])
  ]
    where
      later : (r : Result ℕ ℕ) → ((j : ℕ) → r ≡ Err j → find (λ x. eqb (key x) n) xs ≡ None) → next_place r ≡ Err i → find (λ x. eqb (key x) n) xs ≡ None
      later (Ok j) ih h = absurd (cc)
      later (Err j) ih h = ih j refl

      never : zero_ok ≡ Err i → ⊥
      never h = cc

      higher : ltb (key x) n ≡ false → (m : ℕ) → key x < m → n < m
      higher f m l = elim (cases_Bool (ltb n m)) [ inl t ↦ ltb-true _ _ t | inr g ↦ absurd (omega (arith, ltb-false _ _ f, ltb-false _ _ g)) ]

      none : (ys : List A) → ((m : ℕ) → key x < m → n < m) → AllAbove key (key x) ys → find (λ x. eqb (key x) n) ys ≡ None
      none [] f a = refl
      none (y ∷ ys) f a = let l = f (key y) a.0 in rw (ne_eqb (key y) n (λ q. absurd (omega arith))) (none ys f a.1)

pub below_shown : {A B : Type 0} (f : A → B) (key : B → ℕ) (n : ℕ) (xs : List A) → AllBelow key n (map f xs) → AllBelow (λ x. key (f x)) n xs
below_shown f key n [] h = tt
below_shown f key n (x ∷ xs) h = (h.0, below_shown f key n xs h.1)

pub found_shown : {A B : Type 0} (f : A → B) (p : B → Bool) (xs : List A) (x : A) → find (λ y. p (f y)) xs ≡ Some x → find p (map f xs) ≡ Some (f x)
found_shown f p [] x h = absurd (cc)
found_shown f p (y ∷ xs) x h = elim (cases_Bool (p (f y))) [
  | inl t ↦ rw t (ap (λ (o : Option _). option_map f o) (rw t at h))
  | inr t ↦ rw t (found_shown f p xs x (rw t at h))
]

pub unfound_shown : {A B : Type 0} (f : A → B) (p : B → Bool) (xs : List A) → find (λ y. p (f y)) xs ≡ None → list_any p (map f xs) ≡ false
unfound_shown f p [] h = refl
unfound_shown f p (y ∷ xs) h = elim (cases_Bool (p (f y))) [
  | inl t ↦ absurd (never (rw t at h))
  | inr t ↦ rw t (unfound_shown f p xs (rw t at h))
]
  where
    never : Some y ≡ None → ⊥
    never h = cc

pub is_found_shown : {A B : Type 0} (f : A → B) (p : B → Bool) (xs : List A) → is_some (find (λ y. p (f y)) xs) ≡ list_any p (map f xs)
is_found_shown f p [] = refl
is_found_shown f p (y ∷ xs) = elim (cases_Bool (p (f y))) [ inl t ↦ rw t refl | inr t ↦ rw t (is_found_shown f p xs) ]

pub some_unless : {A : Type 0} (o : Option A) → (o ≡ None → ⊥) → IsSome o
some_unless None f = absurd (f refl)
some_unless (Some x) f = refl
