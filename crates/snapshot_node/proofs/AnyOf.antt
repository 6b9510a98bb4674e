-- Tests of lists: whether some element passes, and how two tests combine.
use Rattle.std.proofs.Common.{◌≡◌, ℕ, Bool, true, false, ◌&&◌, ◌||◌, List, [], ◌∷◌, refl, sym, ap, ◌∙◌, inl, inr}
use Rattle.std.specs.List.{list_any}
use Rattle.std.proofs.lemmas.Bool.{or_cases, or_left}
use Rattle.teb_rules.proofs.lemmas.names.Bools.{and_false}

pub any_is : (p : ℕ → Bool) (us : List ℕ) → list_any p us ≡ true → (u : ℕ) × (p u ≡ true)
any_is p [] h = absurd (cc)
any_is p (v ∷ vs) h = elim (or_cases (p v) (list_any p vs) h) [ inl e ↦ (v, e) | inr e ↦ any_is p vs e ]

pub any_no : (k : ℕ → Bool) (us : List ℕ) → list_any (λ u. k u && false) us ≡ false
any_no k [] = refl
any_no k (u ∷ us) = ap (λ (b : Bool). b || list_any (λ u. k u && false) us) (and_false (k u)) ∙ any_no k us

any_both : (k p q : ℕ → Bool) (us : List ℕ) → (list_any (λ u. k u && p u) us || list_any (λ u. k u && q u) us) ≡ list_any (λ u. k u && (p u || q u)) us
any_both k p q [] = refl
any_both k p q (u ∷ us) = regroup (k u) (p u) (q u) (list_any (λ u. k u && p u) us) (list_any (λ u. k u && q u) us) ∙ ap (λ (b : Bool). k u && (p u || q u) || b) (any_both k p q us)
  where
    regroup : (a b c d e : Bool) → ((a && b || d) || (a && c || e)) ≡ (a && (b || c) || (d || e))
    regroup false b c d e = refl
    regroup true true c d e = refl
    regroup true false true true e = refl
    regroup true false true false e = refl
    regroup true false false d e = refl

-- a test of pairs can go through either part first
pub any_swap : {X : Type 0} (k : ℕ → Bool) (g : ℕ → X → Bool) (us : List ℕ) (xs : List X) → list_any (λ x. list_any (λ u. k u && g u x) us) xs ≡ list_any (λ u. k u && list_any (g u) xs) us
any_swap k g us [] = sym (any_no k us)
any_swap k g us (x ∷ xs) = ap (λ (b : Bool). list_any (λ u. k u && g u x) us || b) (any_swap k g us xs) ∙ any_both k (λ u. g u x) (λ u. list_any (g u) xs) us

-- if the first element passes, the result is true; if not, the rest decides
pub any_first : {X : Type 0} (q : X → Bool) (x : X) (rest xs : List X) (r : Bool) → xs ≡ x ∷ rest → list_any q xs ≡ r → q x ≡ true → true ≡ r
any_first q x rest xs r e h t = sym (or_left (q x) (list_any q rest) t) ∙ sym (ap (list_any q) e) ∙ h

pub any_later : {X : Type 0} (q : X → Bool) (x : X) (rest xs : List X) (r : Bool) → xs ≡ x ∷ rest → list_any q xs ≡ r → q x ≡ false → list_any q rest ≡ r
any_later q x rest xs r e h f = ap (λ (b : Bool). b || list_any q rest) (sym f) ∙ sym (ap (list_any q) e) ∙ h
