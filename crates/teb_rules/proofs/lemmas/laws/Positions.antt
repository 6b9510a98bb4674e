-- Positions in a history and in the prefix before position i, where each position is the smaller of itself and i.
use Rattle.std.proofs.Common.{◌≡◌, ℕ, suc, ◌<◌, ◌≤◌, min, Bool, true, false, ltb, List, [], ◌∷◌, refl, inl, inr, arith, length, lt-ltb, le-ltb, le_refl}
use Rattle.std.proofs.lemmas.Bool.{cases_Bool, cases_lt}
use Rattle.teb_rules.specs.declared.history.Event.{Event}
use Rattle.teb_rules.specs.history.Positions.{upto, first, came}
use Rattle.teb_rules.proofs.lemmas.history.Chains.{length-upto}
pub use Rattle.teb_rules.proofs.lemmas.history.Any.{first_le as first-le}

pub upto_all : (i : ℕ) (H : List Event) → length H ≤ i → upto i H ≡ H
unfolding upto
upto_all i [] h = refl
upto_all i (e ∷ P) h = rw (lt-ltb (length P) i h) refl

pub upto_cons : (i : ℕ) (e : Event) (P : List Event) → i ≤ length P → upto i (e ∷ P) ≡ upto i P
unfolding upto
upto_cons i e P h = rw (le-ltb (length P) i h) refl

-- the event at a position
pub record HasEvent (H : List Event) (i : ℕ) : Type 0 where
  pub event : Event
  pub is : upto (suc i) H ≡ event ∷ upto i H

pub has_event : (H : List Event) (i : ℕ) → i < length H → HasEvent H i
has_event [] i h = absurd (omega arith)
has_event (e ∷ P) i h = elim (cases_lt i (length P)) [
  | inl l ↦ (let r = has_event P i l in record { event = r.event; is = rw (upto_cons (suc i) e P l, upto_cons i e P (let q : i ≤ length P = omega arith in q)) r.is })
  | inr l ↦ (let q : i ≡ length P = omega arith in
      record { event = e; is = rw (upto_all (suc i) (e ∷ P) (let z : suc (length P) ≤ suc i = omega arith in z), upto_cons i e P (let z : i ≤ length P = omega arith in z), upto_all i P l) refl })
]

-- the three cases of the first event after which p holds
pub data FirstCases (p : List Event → Bool) (e : Event) (P : List Event) : Type 0 where
  before : first p P < length P → first p (e ∷ P) ≡ first p P → FirstCases p e P
  now : first p P ≡ length P → p (e ∷ P) ≡ true → first p (e ∷ P) ≡ length P → FirstCases p e P
  later : first p P ≡ length P → p (e ∷ P) ≡ false → first p (e ∷ P) ≡ suc (length P) → FirstCases p e P

pub first_cases : (p : List Event → Bool) (e : Event) (P : List Event) → FirstCases p e P
first_cases p e P = elim (cases_lt (first p P) (length P)) [
  | inl l ↦ before l (unfold first in rw (lt-ltb (first p P) (length P) l) refl)
  | inr l ↦ (let q : first p P ≡ length P = omega (arith, first-le p P) in elim (cases_Bool (p (e ∷ P))) [
    | inl t ↦ now q t (unfold first in rw (le-ltb (first p P) (length P) l, t) refl)
    | inr f ↦ later q f (unfold first in rw (le-ltb (first p P) (length P) l, f) refl)
  ])
]

pub first-upto : (p : List Event → Bool) (i : ℕ) (H : List Event) → i ≤ length H → first p (upto i H) ≡ min i (first p H)
first-upto p i [] h = unfold upto first in omega arith
first-upto p i (e ∷ P) h = elim (cases_lt (length P) i) [
  | inl l ↦ rw (upto_all i (e ∷ P) l) (omega (arith, first-le p (e ∷ P)))
  | inr l ↦ rw (upto_cons i e P l, first-upto p i P l) (elim (first_cases p e P) [
    | before a b ↦ omega arith
    | now a b c ↦ omega arith
    | later a b c ↦ omega arith
  ])
]

-- p holds after the first event, and after none before it
pub first-holds : (p : List Event → Bool) (H : List Event) → first p H < length H → p (upto (suc (first p H)) H) ≡ true
first-holds p [] h = absurd (omega arith)
first-holds p (e ∷ P) h = elim (first_cases p e P) [
  | before a b ↦ rw (b, upto_cons (suc (first p P)) e P a) (first-holds p P a)
  | now a b c ↦ rw (c, upto_all (suc (length P)) (e ∷ P) (le_refl (suc (length P)))) b
  | later a b c ↦ absurd (omega arith)
]

pub first_not : (p : List Event → Bool) (H : List Event) (j : ℕ) → j < first p H → p (upto (suc j) H) ≡ false
first_not p [] j h = absurd (unfold first in omega arith)
first_not p (e ∷ P) j h = elim (first_cases p e P) [
  | before a b ↦ rw (upto_cons (suc j) e P (let z : suc j ≤ length P = omega arith in z)) (first_not p P j (omega arith))
  | now a b c ↦ rw (upto_cons (suc j) e P (let z : suc j ≤ length P = omega arith in z)) (first_not p P j (omega arith))
  | later a b c ↦ elim (cases_lt j (length P)) [
    | inl l ↦ rw (upto_cons (suc j) e P l) (first_not p P j (omega arith))
    | inr l ↦ rw (upto_all (suc j) (e ∷ P) (let z : suc (length P) ≤ suc j = omega arith in z)) b
  ]
]

-- in the prefix before position i, an event has occurred if and only if its position is before i
pub came-upto : (p : List Event → Bool) (i : ℕ) (H : List Event) → i ≤ length H → came (upto i H) (first p (upto i H)) ≡ ltb (first p H) i
came-upto p i H h = rw (first-upto p i H h, length-upto i H h) (elim (cases_lt (first p H) i) [
  | inl l ↦ rw (lt-ltb (first p H) i l) (lt-ltb _ _ (omega arith))
  | inr l ↦ rw (le-ltb (first p H) i l) (le-ltb _ _ (omega arith))
])
