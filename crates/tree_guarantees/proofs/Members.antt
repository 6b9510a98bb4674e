-- A test that holds of every member of a list.
use Rattle.std.proofs.Common.{◌≡◌, ℕ, Bool, true, List, [], ◌∷◌, eqb, refl, subst, inl, inr}
use Rattle.std.proofs.lemmas.Bool.{and_parts, and_from, or_cases, or_left, or_right, eqb-true, eq-eqb, false≢true}
use Rattle.std.specs.List.{list_all}
use Rattle.teb_rules.specs.Setup.{among}

pub all_have : (p : ℕ → Bool) (ns : List ℕ) (n : ℕ) → list_all p ns ≡ true → among n ns ≡ true → p n ≡ true
all_have p [] n h a = absurd (false≢true a)
all_have p (m ∷ ms) n h a =
    let r = and_parts (p m) (list_all p ms) h in
    elim (or_cases (eqb m n) (among n ms) a) [
      | inl q ↦ subst (λ (z : ℕ). p z ≡ true) (eqb-true m n q) r.0
      | inr q ↦ all_have p ms n r.1 q
    ]

pub have_all : (p : ℕ → Bool) (ns : List ℕ) → ((n : ℕ) → among n ns ≡ true → p n ≡ true) → list_all p ns ≡ true
have_all p [] f = refl
have_all p (m ∷ ms) f =
    and_from
    (p m)
    (list_all p ms)
    (f m (or_left (eqb m m) (among m ms) (eq-eqb m m refl)))
    (have_all p ms (λ n a. f n (or_right (eqb m n) (among n ms) a)))
