-- A list in three parts of which a test passes only the middle one: what the test selects, also after an edit of the middle.
use Rattle.std.proofs.Common.{◌≡◌, ℕ, zero, suc, ◌+◌, ◌-◌, ◌≤◌, ◌<◌, Bool, true, false, cond, List, [], ◌∷◌, ◌++◌, length, get_or, set, refl, ap, ◌∙◌, arith, append-nil}
use Rattle.std.specs.List.{filter, insert}
use Rattle.std.proofs.lemmas.List.{set-append_left, set-append_right}
use Rattle.std.proofs.lemmas.List.Edits.{insert-append_left, insert-append_right}
use Rattle.std.proofs.lemmas.List.Elements.{filter-append}

module _ {X : Type 0} (p : X → Bool) where
  -- p returns b for each element
  abbrev pub Says : Bool → List X → Type 0
  Says b xs = (j : ℕ) (d : X) → j < length xs → p (get_or xs j d) ≡ b

  says_rest : (b : Bool) (x : X) (xs : List X) → Says b (x ∷ xs) → Says b xs
  says_rest b x xs h j d lt = h (suc j) d (omega arith)

  pub filter_none : (xs : List X) → Says false xs → filter p xs ≡ []
  filter_none [] h = refl
  filter_none (x ∷ xs) h = let off : p x ≡ false = h 0 x (omega arith) in rw off (filter_none xs (says_rest false x xs h))

  pub filter_all : (xs : List X) → Says true xs → filter p xs ≡ xs
  filter_all [] h = refl
  filter_all (x ∷ xs) h = let on : p x ≡ true = h 0 x (omega arith) in rw on (ap (λ l. x ∷ l) (filter_all xs (says_rest true x xs h)))

  filter_insert : (xs : List X) (i : ℕ) (v : X) → p v ≡ true → Says true xs → filter p (insert xs i v) ≡ insert xs i v
  filter_insert [] zero v on h = rw on refl
  filter_insert [] (suc i) v on h = rw on refl
  filter_insert (x ∷ xs) zero v on h = rw on (ap (λ l. v ∷ l) (filter_all (x ∷ xs) h))
  filter_insert (x ∷ xs) (suc i) v on h = let first : p x ≡ true = h 0 x (omega arith) in rw first (ap (λ l. x ∷ l) (filter_insert xs i v on (says_rest true x xs h)))

  filter_set : (xs : List X) (i : ℕ) (v : X) → p v ≡ true → Says true xs → filter p (set xs i v) ≡ set xs i v
  filter_set [] i v on h = refl
  filter_set (x ∷ xs) zero v on h = rw on (ap (λ l. v ∷ l) (filter_all xs (says_rest true x xs h)))
  filter_set (x ∷ xs) (suc i) v on h = let first : p x ≡ true = h 0 x (omega arith) in rw first (ap (λ l. x ∷ l) (filter_set xs i v on (says_rest true x xs h)))

  -- the test selects the middle part
  filter_parts : (a m b : List X) → Says false a → filter p m ≡ m → Says false b → filter p (a ++ (m ++ b)) ≡ m
  filter_parts a m b before here after =
      filter-append p a (m ++ b) ∙ (ap (λ l. l ++ filter p (m ++ b)) (filter_none a before)
      ∙ (filter-append p m b ∙ (ap (λ l. l ++ filter p b) here ∙ (ap (λ l. m ++ l) (filter_none b after) ∙ append-nil m))))

  module _ (a m b : List X) (before : Says false a) (here : Says true m) (after : Says false b) where
    pub middle : filter p (a ++ (m ++ b)) ≡ m
    middle = filter_parts a m b before (filter_all m here) after

    pub middle_insert : (i : ℕ) (v : X) → p v ≡ true → i ≤ length m → filter p (insert (a ++ (m ++ b)) (length a + i) v) ≡ insert m i v
    middle_insert i v on within =
        let k : length a + i - length a ≡ i = omega arith in
        ap (filter p) (insert-append_right a (m ++ b) (length a) (length a + i) v refl (omega arith) ∙ (ap (λ j. a ++ insert (m ++ b) j v) k ∙ ap (λ l. a ++ l) (insert-append_left m b i v within)))
        ∙ filter_parts a (insert m i v) b before (filter_insert m i v on here) after

    pub middle_set : (i : ℕ) (v : X) → p v ≡ true → i < length m → filter p (set (a ++ (m ++ b)) (length a + i) v) ≡ set m i v
    middle_set i v on within =
        let k : length a + i - length a ≡ i = omega arith in
        ap (filter p) (set-append_right a (m ++ b) (length a) (length a + i) v refl (omega arith) ∙ (ap (λ j. a ++ set (m ++ b) j v) k ∙ ap (λ l. a ++ l) (set-append_left m b i v within)))
        ∙ filter_parts a (set m i v) b before (filter_set m i v on here) after

  -- an edit of elements that do not pass the test does not change what it selects
  pub filter_insert_none : (xs : List X) (k : ℕ) (v : X) → p v ≡ false → filter p (insert xs k v) ≡ filter p xs
  filter_insert_none [] zero v off = rw off refl
  filter_insert_none [] (suc k) v off = rw off refl
  filter_insert_none (x ∷ xs) zero v off = rw off refl
  filter_insert_none (x ∷ xs) (suc k) v off = ap (λ l. cond (p x) (x ∷ l) l) (filter_insert_none xs k v off)

  pub filter_set_none : (xs : List X) (k : ℕ) (v d : X) → p v ≡ false → p (get_or xs k d) ≡ false → filter p (set xs k v) ≡ filter p xs
  filter_set_none [] k v d off was = refl
  filter_set_none (x ∷ xs) zero v d off was = rw (off, was) refl
  filter_set_none (x ∷ xs) (suc k) v d off was = ap (λ l. cond (p x) (x ∷ l) l) (filter_set_none xs k v d off was)
