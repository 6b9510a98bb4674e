-- Membership in a list of transactions, and how an edit by number changes it.
use Rattle.std.proofs.Common.{◌≡◌, ℕ, Bool, true, false, cond, not, ltb, eqb, ◌&&◌, ◌||◌, List, [], ◌∷◌, filter, refl, sym, ◌∙◌, ap, arith}
use Rattle.std.proofs.lemmas.Bool.{both_ways, eqb-true, eq-eqb, ne_eqb}
use Rattle.teb_rules.specs.declared.names.Txn.{Txn}
use Rattle.teb_rules.proofs.lemmas.names.Bools.{and_false, or_swap}
use Rattle.teb_rules.specs.history.Ascending.{put_by}
use Rattle.teb_rules.specs.history.Live.{number_of}
use Rattle.access_book.specs.Books.{is_among}

or_later : (a b c : Bool) → (a || (b || c)) ≡ ((a || b) || c)
or_later true b c = refl
or_later false b c = refl

pub among_put : (t : Txn) (xs : List Txn) (u : ℕ) → is_among u (put_by number_of t xs) ≡ (is_among u xs || eqb t.0 u)
among_put t [] u = or_swap (eqb t.0 u) false
among_put t (x ∷ xs) u = go (ltb x.0 t.0) (eqb x.0 t.0) refl (among_put t xs u)
  where
    go : (b c : Bool) → eqb x.0 t.0 ≡ c → is_among u (put_by number_of t xs) ≡ (is_among u xs || eqb t.0 u)
        → is_among u (cond b (x ∷ put_by number_of t xs) (t ∷ cond c xs (x ∷ xs))) ≡ ((eqb x.0 u || is_among u xs) || eqb t.0 u)
    go true c q ih = ap (λ (b : Bool). eqb x.0 u || b) ih ∙ or_later (eqb x.0 u) (is_among u xs) (eqb t.0 u)
    go false true q ih = twice (eqb t.0 u) (is_among u xs) ∙ ap (λ (n : ℕ). (eqb n u || is_among u xs) || eqb t.0 u) (sym (eqb-true _ _ q))
      where
        twice : (a b : Bool) → (a || b) ≡ ((a || b) || a)
        twice true b = refl
        twice false true = refl
        twice false false = refl
    go false false q ih = or_swap (eqb t.0 u) (eqb x.0 u || is_among u xs)

-- the transactions other than n
abbrev pub others : ℕ → List Txn → List Txn
others n xs = filter (λ x. not (eqb x.0 n)) xs

pub among_others : (n : ℕ) (xs : List Txn) (u : ℕ) → is_among u (others n xs) ≡ (is_among u xs && not (eqb n u))
among_others n [] u = refl
among_others n (x ∷ xs) u = go (eqb x.0 n) refl (eqb x.0 u) refl (among_others n xs u)
  where
    go : (b : Bool) → eqb x.0 n ≡ b → (c : Bool) → eqb x.0 u ≡ c → is_among u (others n xs) ≡ (is_among u xs && not (eqb n u))
        → is_among u (cond (not b) (x ∷ others n xs) (others n xs)) ≡ ((c || is_among u xs) && not (eqb n u))
    go true h true k ih =
        let e : eqb n u ≡ true = eq-eqb n u (let a = eqb-true x.0 n h in let b = eqb-true x.0 u k in omega arith) in
        ih ∙ ap (λ (b : Bool). is_among u xs && not b) e ∙ and_false (is_among u xs) ∙ sym (ap not e)
    go true h false k ih = ih
    go false h true k ih =
        let e : eqb n u ≡ false = ne_eqb n u (λ q. both_ways (eqb x.0 u) (ap (λ (m : ℕ). eqb x.0 m) (sym q) ∙ h) k) in
        ap (λ (b : Bool). b || is_among u (others n xs)) k ∙ sym (ap not e)
    go false h false k ih = ap (λ (b : Bool). b || is_among u (others n xs)) k ∙ ih

pub put_cond : (b a c : Bool) → cond b (a || c) a ≡ (a || (b && c))
put_cond true a c = refl
put_cond false true c = refl
put_cond false false c = refl

pub take_cond : (b a c : Bool) → cond b (a && not c) a ≡ (a && not (b && c))
take_cond true a c = refl
take_cond false true c = refl
take_cond false false c = refl
