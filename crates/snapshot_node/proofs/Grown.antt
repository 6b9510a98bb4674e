-- Marks that have grown, and the walks that set them.
use Rattle.std.proofs.Common.{◌≡◌, ℕ, zero, suc, ◌+◌, ◌<◌, ◌≤◌, true, eqb, List, [], ◌∷◌, length, get_or, refl, sym, ◌∙◌, subst, inl, inr, arith, eqb-true}
use Rattle.std.proofs.lemmas.Bool.{cases_lt, or_cases}
use Rattle.teb_rules.specs.declared.names.Txn.{Txn}
use Rattle.teb_rules.specs.declared.history.Event.{Event}
use Rattle.teb_rules.specs.Setup.{Setup}
use Rattle.snapshot_node.specs.declared.marks.Mark.{Mark}
use Rattle.access_book.specs.Books.{is_among}
use Rattle.snapshot_node.specs.Marks.{HaveGrown, IsTold}

pub grown_none : (ms : List Mark) → HaveGrown ms ms
grown_none ms = record { long = refl; entered = λ i h. h; left = λ i h. h; behind = λ i h. h; ahead = λ i h. h }

pub grown_then : (a b c : List Mark) → HaveGrown a b → HaveGrown b c → HaveGrown a c
grown_then a b c h k = record {
  long = k.long ∙ h.long;
  entered = λ i x. k.entered i (h.entered i x);
  left = λ i x. k.left i (h.left i x);
  behind = λ i x. k.behind i (h.behind i x);
  ahead = λ i x. k.ahead i (h.ahead i x);
}

pub told_still : (S : Setup) (H : List Event) (n : ℕ) (a b : List Mark) (u w : ℕ) → HaveGrown a b → IsTold S H n a u w → IsTold S H n b u w
told_still S H n a b u w g t = record { left = g.left _ t.left; entered = g.entered _ t.entered; ahead = g.ahead _ t.ahead; behind = g.behind _ t.behind }

-- the place of a member in a list
pub place_among : (d : Txn) (xs : List Txn) (u : ℕ) → is_among u xs ≡ true → (j : ℕ) × (j < length xs) × ((get_or xs j d).0 ≡ u)
place_among d [] u h = absurd (cc)
place_among d (x ∷ xs) u h = elim (or_cases (eqb x.0 u) (is_among u xs) h) [
  | inl e ↦ (zero, (let z : zero < suc (length xs) = omega arith in z), eqb-true x.0 u e)
  | inr k ↦ (let r = place_among d xs u k in let z = r.1 in (suc r.0, (let y : suc r.0 < suc (length xs) = omega arith in y), r.2))
]

-- before place i of a list, each element with P has R
module _ (P R : ℕ → Type 0) (d : Txn) (xs : List Txn) where
  abbrev pub EachBefore : ℕ → Type 0
  EachBefore i = (j : ℕ) → j < i → P (get_or xs j d).0 → R (get_or xs j d).0

  pub each_more : (i : ℕ) → EachBefore i → (P (get_or xs i d).0 → R (get_or xs i d).0) → EachBefore (i + 1)
  each_more i h f j l p = elim (cases_lt j i) [
    | inl m ↦ h j m p
    | inr m ↦ (let e : j ≡ i = omega arith in subst (λ (k : ℕ). P (get_or xs k d).0 → R (get_or xs k d).0) (sym e) f p)
  ]

  pub each_all : (i u : ℕ) → length xs ≤ i → EachBefore i → is_among u xs ≡ true → P u → R u
  each_all i u l h a p =
      let r = place_among d xs u a in
      let z = r.1 in
      subst R r.2 (h r.0 (omega arith) (subst P (sym r.2) p))

-- R can be weakened during the walk
pub each_grown : (P R Q : ℕ → Type 0) (d : Txn) (xs : List Txn) (i : ℕ) → ((u : ℕ) → R u → Q u) → EachBefore P R d xs i → EachBefore P Q d xs i
each_grown P R Q d xs i f h = λ j l p. f (get_or xs j d).0 (h j l p)
