-- Lists and options.
use Rattle.std.proofs.Common.{◌≡◌, ◌≢◌, ℕ, zero, suc, ◌≤◌, Bool, true, false, true≢false, List, [], ◌∷◌, ◌++◌, set, length, sym, refl, ap, subst, ⊎_elim, arith, Option, Some, None, All}
use mathlib.Core.Option.{some, some-injective, some-ne-none}
use lib.ListN.{get_elem?}
use Rattle.atomic_table.proofs.Lists.{at_set}

pub All_map : {X : Type 0} (P Q : X → Type 0) (xs : List X) → ((x : X) → P x → Q x) → All P xs → All Q xs
All_map P Q xs f a k d l = f _ (a k d l)

pub All_none : {X : Type 0} (P : X → Type 0) → All P []
All_none P k d l = absurd (omega arith)

pub All_cons : {X : Type 0} (P : X → Type 0) (x : X) (xs : List X) → P x → All P xs → All P (x ∷ xs)
All_cons P x xs p a zero d l = p
All_cons P x xs p a (suc k) d l = a k d (omega arith)

pub All_left : {X : Type 0} (P : X → Type 0) (xs ys : List X) → All P (xs ++ ys) → All P xs
All_left P [] ys a = All_none P
All_left P (x ∷ xs) ys a = All_cons P x xs (a 0 x (omega arith)) (All_left P xs ys (λ k d l. a (suc k) d (omega arith)))

pub All_right : {X : Type 0} (P : X → Type 0) (xs ys : List X) → All P (xs ++ ys) → All P ys
All_right P [] ys a = a
All_right P (x ∷ xs) ys a = All_right P xs ys (λ k d l. a (suc k) d (omega arith))

pub All_last : {X : Type 0} (P : X → Type 0) (xs : List X) (x : X) → All P (xs ++ x ∷ []) → P x
All_last P xs x a = All_right P xs (x ∷ []) a 0 x (omega arith)

pub nil_left : {A : Type 0} (xs ys : List A) → xs ++ ys ≡ [] → xs ≡ []
nil_left [] ys e = refl
nil_left (x ∷ xs) ys e = absurd (let z = ap length e in omega arith)

abbrev pub tail_of : {E : Type 0} → List E → List E
tail_of [] = []
tail_of (z ∷ zs) = zs

-- of two prefixes of one list, what follows the longer is a suffix of what follows the other
pub rest_after : {E : Type 0} (xs ys r q : List E) → xs ++ r ≡ ys ++ q → length ys ≤ length xs → (z : List E) × (q ≡ z ++ r)
rest_after xs [] r q e l = (xs, sym e)
rest_after [] (y ∷ ys) r q e l = absurd (omega arith)
rest_after (x ∷ xs) (y ∷ ys) r q e l = rest_after xs ys r q (ap tail_of e) (omega arith)

pub set_same : {A : Type 0} (vs : List A) (i : ℕ) (v w : A) → get_elem? vs i ≡ some v → get_elem? (set vs i w) i ≡ some w
set_same [] i v w e = absurd (some-ne-none v (sym e))
set_same (x ∷ xs) zero v w e = refl
set_same (x ∷ xs) (suc i) v w e = set_same xs i v w e

-- a property of the new element and of all others is one of all elements
pub all_set : {A : Type 0} (F : A → Type 0) (vs : List A) (me : ℕ) (w : A) → F w → ((j : ℕ) (u : A) → j ≢ me → get_elem? vs j ≡ some u → F u) → (j : ℕ) (u : A) → get_elem? (set vs me w) j ≡ some u
    → F u
all_set F vs me w mine others j u e = ⊎_elim (λ t. subst F t.1 mine) (λ t. others j u t.0 t.1) (at_set vs me j w u e)

pub only_at : {A : Type 0} (P : A → Type 0) (a : A) → P a → (j : ℕ) (b : A) → get_elem? (a ∷ []) j ≡ some b → P b
only_at P a p zero b e = subst P (some-injective a b e) p
only_at P a p (suc j) b e = absurd (some-ne-none b (sym e))

abbrev pub some_or : {A : Type 0} → A → Option A → A
some_or x (Some y) = y
some_or x None = x

pub Some_is : {A : Type 0} {x y : A} → Some x ≡ Some y → x ≡ y
Some_is {x = x} e = ap (some_or x) e

abbrev pub is_there : {A : Type 0} → Option A → Bool
is_there (Some a) = true
is_there None = false

pub Some_not_None : {A : Type 0} {a : A} → Some a ≡ None → ⊥
Some_not_None e = true≢false (ap is_there e)
