-- The least number from 1 on that passes a test.
use Rattle.std.proofs.Common.{◌≡◌, ℕ, zero, suc, ◌<◌, ◌≤◌, Bool, true, false, cond, ◌||◌, min, List, [], ◌∷◌, ◌++◌, find, Option, Some, None, refl, sym, ◌∙◌, ap, subst, inl, inr, arith}
use Rattle.std.proofs.lemmas.Bool.{cases_eq}
use Rattle.teb_rules.specs.history.Phases.{numbers}

-- tests that agree find the same, and a test that nothing passes finds nothing
pub find_alike : {A : Type 0} (p q : A → Bool) → ((u : A) → p u ≡ q u) → (us : List A) → find p us ≡ find q us
find_alike p q f [] = refl
find_alike p q f (u ∷ us) = λ j. cond (f u j) (Some u) (find_alike p q f us j)

pub nobody : (us : List ℕ) → find (λ (u : ℕ). false) us ≡ None
nobody [] = refl
nobody (u ∷ us) = nobody us

-- the number that was found, or else the next one if it passes
unfoldable pub first_or : Bool → ℕ → Option ℕ → Option ℕ
first_or b m None = cond b (Some m) None
first_or b m (Some k) = Some k

pub find_end : (q : ℕ → Bool) (xs : List ℕ) (m : ℕ) → find q (xs ++ m ∷ []) ≡ first_or (q m) m (find q xs)
unfolding first_or
find_end q [] m = refl
find_end q (x ∷ xs) m = go (q x) (find_end q xs m)
  where
    go : (o : Bool) → find q (xs ++ m ∷ []) ≡ first_or (q m) m (find q xs) → cond o (Some x) (find q (xs ++ m ∷ [])) ≡ first_or (q m) m (cond o (Some x) (find q xs))
    go true h = refl
    go false h = h

-- if no number below w passes, none is found among them
pub none_below : (q : ℕ → Bool) (w m : ℕ) → m < w → ((v : ℕ) → 0 < v → v < w → q v ≡ false) → find q (numbers m) ≡ None
unfolding numbers first_or
none_below q w zero lt f = refl
none_below q w (suc m) lt f = find_end q (numbers m) (suc m) ∙ ap (first_or (q (suc m)) (suc m)) (none_below q w m (omega arith) f)
    ∙ ap (λ (o : Bool). cond o (Some (suc m)) None) (f (suc m) (omega arith) lt)

-- if w is the least number that passes, w is found
pub numbers_find : (q : ℕ → Bool) (n w : ℕ) → 0 < w → w ≤ n → q w ≡ true → ((v : ℕ) → 0 < v → v < w → q v ≡ false) → find q (numbers n) ≡ Some w
unfolding numbers first_or
numbers_find q zero w p le h f = absurd (omega arith)
numbers_find q (suc n) w p le h f = find_end q (numbers n) (suc n) ∙ elim (cases_eq w (suc n)) [
  | inl e ↦ ap (first_or (q (suc n)) (suc n)) (none_below q w n (omega arith) f) ∙ subst (λ (m : ℕ). cond (q m) (Some m) None ≡ Some w) e (ap (λ (o : Bool). cond o (Some w) None) h)
  | inr ne ↦ ap (first_or (q (suc n)) (suc n)) (numbers_find q n w p (omega arith) h f)
]

-- the lesser of two optional numbers
abbrev pub lesser : Option ℕ → Option ℕ → Option ℕ
lesser None b = b
lesser (Some a) None = Some a
lesser (Some a) (Some b) = Some (min a b)

Upto : ℕ → Option ℕ → Type 0
Upto n None = Unit {0}
Upto n (Some a) = a ≤ n

numbers_upto : (q : ℕ → Bool) (n : ℕ) → Upto n (find q (numbers n))
unfolding numbers Upto first_or
numbers_upto q zero = tt
numbers_upto q (suc n) = subst (Upto (suc n)) (sym (find_end q (numbers n) (suc n))) (go (find q (numbers n)) (numbers_upto q n) (q (suc n)))
  where
    go : (o : Option ℕ) → Upto n o → (b : Bool) → Upto (suc n) (first_or b (suc n) o)
    go None h true = omega arith
    go None h false = tt
    go (Some a) h b = omega arith

low : (a b : ℕ) → a ≤ b → Some a ≡ Some (min a b)
low a b le = ap (λ (k : ℕ). Some k) (let e : a ≡ min a b = omega arith in e)

high : (a b : ℕ) → b ≤ a → Some b ≡ Some (min a b)
high a b le = ap (λ (k : ℕ). Some k) (let e : b ≡ min a b = omega arith in e)

merged : (n : ℕ) (a b : Option ℕ) → Upto n a → Upto n b → (x y : Bool) → first_or (x || y) (suc n) (lesser a b) ≡ lesser (first_or x (suc n) a) (first_or y (suc n) b)
unfolding Upto first_or
merged n None None h k true true = low (suc n) (suc n) (omega arith)
merged n None None h k true false = refl
merged n None None h k false true = refl
merged n None None h k false false = refl
merged n None (Some b) h k true y = high (suc n) b (omega arith)
merged n None (Some b) h k false y = refl
merged n (Some a) None h k x true = low a (suc n) (omega arith)
merged n (Some a) None h k true false = refl
merged n (Some a) None h k false false = refl
merged n (Some a) (Some b) h k x y = refl

-- the least number that passes one of two tests
pub find_either : (p q : ℕ → Bool) (n : ℕ) → find (λ u. p u || q u) (numbers n) ≡ lesser (find p (numbers n)) (find q (numbers n))
unfolding numbers
find_either p q zero = refl
find_either p q (suc n) =
    find_end (λ u. p u || q u) (numbers n) (suc n) ∙ ap (first_or (p (suc n) || q (suc n)) (suc n)) (find_either p q n)
    ∙ merged n (find p (numbers n)) (find q (numbers n)) (numbers_upto p n) (numbers_upto q n) (p (suc n)) (q (suc n))
    ∙ sym (λ j. lesser (find_end p (numbers n) (suc n) j) (find_end q (numbers n) (suc n) j))
