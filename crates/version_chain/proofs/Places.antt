-- The first and the last place in a list at which a test passes, stated place by place.
use Rattle.std.proofs.Common.{◌≡◌, ◌⊎◌, ℕ, zero, suc, ◌≤◌, ◌<◌, Bool, true, false, cond, eqb, IsTrue, List, [], ◌∷◌, length, get_or}
use Rattle.std.proofs.Common.{refl, sym, ap, subst, ◌∙◌, arith, Option, Some, None, MatchOption, inl, inr, eq-eqb, ne_eqb}
use Rattle.std.proofs.lemmas.Bool.{cases_lt, cases_order, or_right, or_from, le-leb, lt-leb}
use Rattle.std.specs.List.{list_any}
use Rattle.std.proofs.lemmas.List.{get_or-map, length-map}
use Rattle.teb_rules.specs.declared.names.Txn.{Txn}
use Rattle.version_chain.specs.Lists.{Version, writers_of, is_writer, next_place, first_place, last_place, unless_below, own_or_last}

-- p fails at each place from low to below high
abbrev pub FailsWithin : (ℕ → Bool) → List ℕ → ℕ → ℕ → Type 0
FailsWithin p ws low high = (j : ℕ) → low ≤ j → j < high → p (get_or ws j 0) ≡ false

abbrev pub IsFirst : (ℕ → Bool) → List ℕ → Option ℕ → Type 0
IsFirst p ws r = MatchOption r (FailsWithin p ws 0 (length ws)) (λ i. (i < length ws) × (p (get_or ws i 0) ≡ true) × FailsWithin p ws 0 i)

abbrev pub IsLast : (ℕ → Bool) → List ℕ → Option ℕ → Type 0
IsLast p ws r = MatchOption r (FailsWithin p ws 0 (length ws)) (λ i. (i < length ws) × (p (get_or ws i 0) ≡ true) × FailsWithin p ws (suc i) (length ws))

-- the last place from `from` on
abbrev pub IsLastFrom : ℕ → (ℕ → Bool) → List ℕ → Option ℕ → Type 0
IsLastFrom from p ws r = MatchOption r (FailsWithin p ws from (length ws)) (λ i. (from ≤ i) × (i < length ws) × (p (get_or ws i 0) ≡ true) × FailsWithin p ws (suc i) (length ws))

pub first_place-found : (p : ℕ → Bool) (ws : List ℕ) → IsFirst p ws (first_place p ws)
first_place-found p [] = λ j le lt. absurd (omega (arith, lt))
first_place-found p (w ∷ ws) = step (p w) refl (first_place p ws) (first_place-found p ws)
  where
    step : (b : Bool) → p w ≡ b → (o : Option ℕ) → IsFirst p ws o → IsFirst p (w ∷ ws) (cond b (Some 0) (next_place o))
    step true e o h = (omega arith, e, λ j le lt. absurd (omega (arith, lt)))
    step false e None h = fails
      where
        fails : FailsWithin p (w ∷ ws) 0 (length (w ∷ ws))
        fails zero le lt = e
        fails (suc j) le lt = h j (omega arith) (omega (arith, lt))
    step false e (Some i) h = (omega (arith, h.0), h.1, fails)
      where
        fails : FailsWithin p (w ∷ ws) 0 (suc i)
        fails zero le lt = e
        fails (suc j) le lt = h.2 j (omega arith) (omega (arith, lt))

pub last_place-found : (p : ℕ → Bool) (ws : List ℕ) → IsLast p ws (last_place p ws)
last_place-found p [] = λ j le lt. absurd (omega (arith, lt))
last_place-found p (w ∷ ws) = step (p w) refl (last_place p ws) (last_place-found p ws)
  where
    above : (i : ℕ) → FailsWithin p ws i (length ws) → FailsWithin p (w ∷ ws) (suc i) (length (w ∷ ws))
    above i h zero le lt = absurd (omega (arith, le))
    above i h (suc j) le lt = h j (omega (arith, le)) (omega (arith, lt))

    step : (b : Bool) → p w ≡ b → (o : Option ℕ) → IsLast p ws o → IsLast p (w ∷ ws) (elim o [ None ↦ cond b (Some 0) None | Some i ↦ Some (suc i) ])
    step true e None h = (omega arith, e, above 0 h)
    step false e None h = fails
      where
        fails : FailsWithin p (w ∷ ws) 0 (length (w ∷ ws))
        fails zero le lt = e
        fails (suc j) le lt = h j (omega arith) (omega (arith, lt))
    step b e (Some i) h = (omega (arith, h.0), h.1, above (suc i) h.2)

passes_fails : (b : Bool) → b ≡ true → b ≡ false → ⊥
passes_fails b t f = let z : true ≡ false = sym t ∙ f in cc

-- the first place is unique, and so is the last
pub first_place_is : (p : ℕ → Bool) (ws : List ℕ) (r : Option ℕ) → IsFirst p ws r → r ≡ first_place p ws
first_place_is p ws r h = same r (first_place p ws) h (first_place-found p ws)
  where
    same : (r o : Option ℕ) → IsFirst p ws r → IsFirst p ws o → r ≡ o
    same None None h k = refl
    same None (Some i) h k = absurd (passes_fails _ k.1 (h i (omega arith) k.0))
    same (Some i) None h k = absurd (passes_fails _ h.1 (k i (omega arith) h.0))
    same (Some i) (Some j) h k = elim (cases_order i j) [
      | inl e ↦ ap Some e
      | inr other ↦ elim other [ inl lt ↦ absurd (passes_fails _ h.1 (k.2 i (omega arith) lt)) | inr gt ↦ absurd (passes_fails _ k.1 (h.2 j (omega arith) gt)) ]
    ]

pub last_place_is : (from : ℕ) (p : ℕ → Bool) (ws : List ℕ) (r : Option ℕ) → IsLastFrom from p ws r → r ≡ unless_below from (last_place p ws)
last_place_is from p ws r h = same r (last_place p ws) h (last_place-found p ws)
  where
    same : (r o : Option ℕ) → IsLastFrom from p ws r → IsLast p ws o → r ≡ unless_below from o
    same None None h k = refl
    same None (Some i) h k = elim (cases_lt i from) [
      | inl lt ↦ rw (lt-leb from i lt) refl
      | inr ge ↦ absurd (passes_fails _ k.1 (h i ge k.0))
    ]
    same (Some i) None h k = absurd (passes_fails _ h.2 (k i (omega arith) h.1))
    same (Some i) (Some j) h k = elim (cases_order i j) [
      | inl e ↦ ap Some e ∙ (let le : from ≤ j = omega (arith, h.0, e) in rw (le-leb from j le) refl)
      | inr other ↦ elim other [ inl lt ↦ absurd (passes_fails _ k.1 (h.3 j (omega (arith, lt)) k.0)) | inr gt ↦ absurd (passes_fails _ h.2 (k.2 i (omega (arith, gt)) h.1)) ]
    ]

-- a version's writer is at the version's place, and is one of the writers
pub writer_at : (vs : List Version) (j : ℕ) (d : Version) → j < length vs → get_or (writers_of vs) j 0 ≡ (get_or vs j d).0.0
writer_at vs j d lt = get_or-map (λ v. v.0.0) vs j d 0 lt

pub length-writers : (vs : List Version) → length (writers_of vs) ≡ length vs
length-writers vs = length-map vs (λ v. v.0.0)

pub is_writer-at : (vs : List Version) (j : ℕ) (d : Version) → j < length vs → is_writer vs (get_or vs j d).0.0 ≡ true
is_writer-at [] j d lt = absurd (omega (arith, lt))
is_writer-at (v ∷ vs) zero d lt = let e : eqb v.0.0 v.0.0 ≡ true = eq-eqb v.0.0 v.0.0 refl in rw e refl
is_writer-at (v ∷ vs) (suc j) d lt = or_right (eqb v.0.0 (get_or vs j d).0.0) _ (is_writer-at vs j d (omega (arith, lt)))

-- a search backward from the last place, by a relation between a writer and its answer, if the answer is always p
pub last_where_is : (vs : List Version) (p : ℕ → Bool) (Answers : Txn → Bool → Type 0) → ((u : Txn) (b : Bool) → IsTrue (is_writer vs u.0) → Answers u b → b ≡ p u.0)
    → (from : ℕ) (r : Option ℕ) → MatchOption r ((j : ℕ) (d : Version) → from ≤ j → j < length vs → Answers (get_or vs j d).0 false)
    (λ i. (from ≤ i) × (i < length vs) × ((d : Version) → Answers (get_or vs i d).0 true) × ((j : ℕ) (d : Version) → i < j → j < length vs → Answers (get_or vs j d).0 false))
    → r ≡ unless_below from (last_place p (writers_of vs))
last_where_is vs p Answers agrees from r h = last_place_is from p (writers_of vs) r (places r h)
  where
    said : (j : ℕ) (b : Bool) → j < length vs → ((d : Version) → Answers (get_or vs j d).0 b) → p (get_or (writers_of vs) j 0) ≡ b
    said j b lt answers = let d : Version = (record { 0 = 0 }, None) in ap p (writer_at vs j d lt) ∙ sym (agrees _ b (is_writer-at vs j d lt) (answers d))

    n : length (writers_of vs) ≡ length vs
    n = length-writers vs

    places : (r : Option ℕ) → MatchOption r ((j : ℕ) (d : Version) → from ≤ j → j < length vs → Answers (get_or vs j d).0 false)
        (λ i. (from ≤ i) × (i < length vs) × ((d : Version) → Answers (get_or vs i d).0 true) × ((j : ℕ) (d : Version) → i < j → j < length vs → Answers (get_or vs j d).0 false))
        → IsLastFrom from p (writers_of vs) r
    places None h = λ j le lt. let low : j < length vs = omega (arith, lt, n) in said j false low (λ d. h j d le low)
    places (Some i) h = (h.0, omega (arith, h.1, n), said i true h.1 h.2, λ j le lt. let low : j < length vs = omega (arith, lt, n) in said j false low (λ d. h.3 j d (omega (arith, le)) low))

-- the first version of a writer
pub first_of_writer : (vs : List Version) (t : Txn) (r : Option ℕ) → MatchOption r ((j : ℕ) (d : Version) → j < length vs → (get_or vs j d).0 ≡ t → ⊥)
    (λ i. (i < length vs) × ((d : Version) → (get_or vs i d).0 ≡ t) × ((j : ℕ) (d : Version) → j < i → (get_or vs j d).0 ≡ t → ⊥))
    → r ≡ first_place (λ w. eqb w t.0) (writers_of vs)
first_of_writer vs t r h = first_place_is (λ w. eqb w t.0) (writers_of vs) r (places r h)
  where
    none : Version
    none = (record { 0 = 0 }, None)

    n : length (writers_of vs) ≡ length vs
    n = length-writers vs

    other : (u : Txn) → (u ≡ t → ⊥) → eqb u.0 t.0 ≡ false
    other u ne = ne_eqb u.0 t.0 (λ e. let made : ℕ → Txn = λ k. record { 0 = k } in ne (ap made e))

    places : (r : Option ℕ) → MatchOption r ((j : ℕ) (d : Version) → j < length vs → (get_or vs j d).0 ≡ t → ⊥)
        (λ i. (i < length vs) × ((d : Version) → (get_or vs i d).0 ≡ t) × ((j : ℕ) (d : Version) → j < i → (get_or vs j d).0 ≡ t → ⊥)) → IsFirst (λ w. eqb w t.0) (writers_of vs) r
    places None h = λ j le lt. let low : j < length vs = omega (arith, lt, n) in ap (λ w. eqb w t.0) (writer_at vs j none low) ∙ other _ (h j none low)
    places (Some i) h = (
      omega (arith, h.0, n),
      ap (λ w. eqb w t.0) (writer_at vs i none h.0) ∙ eq-eqb _ t.0 (ap (λ (u : Txn). u.0) (h.1 none)),
      λ j le lt. let low : j < length vs = omega (arith, lt, h.0) in ap (λ w. eqb w t.0) (writer_at vs j none low) ∙ other _ (h.2 j none lt),
    )

-- if no version of t is found, t is not a writer
pub is_writer-none : (vs : List Version) (t : ℕ) → None ≡ first_place (λ w. eqb w t) (writers_of vs) → is_writer vs t ≡ false
is_writer-none vs t e = none (writers_of vs) (subst (λ o. IsFirst (λ w. eqb w t) (writers_of vs) o) (sym e) (first_place-found (λ w. eqb w t) (writers_of vs)))
  where
    none : (ws : List ℕ) → FailsWithin (λ w. eqb w t) ws 0 (length ws) → list_any (λ w. eqb w t) ws ≡ false
    none [] h = refl
    none (w ∷ ws) h = or_from _ _ (h 0 (omega arith) (omega arith)) (none ws (λ j le lt. h (suc j) (omega arith) (omega (arith, lt))))

-- the search returns the place of t's version, or if t has none, the last place that passes
pub own_is : (vs : List Version) (t i : ℕ) (p : ℕ → Bool) → Some i ≡ first_place (λ w. eqb w t) (writers_of vs) → Some i ≡ own_or_last t p (writers_of vs)
own_is vs t i p e = ap (λ (o : Option ℕ). elim o [ None ↦ last_place p (writers_of vs) | Some i ↦ Some i ]) e

pub other_is : (vs : List Version) (t : ℕ) (r : Option ℕ) (p : ℕ → Bool) → None ≡ first_place (λ w. eqb w t) (writers_of vs) → r ≡ last_place p (writers_of vs) → r ≡ own_or_last t p (writers_of vs)
other_is vs t r p e last = last ∙ ap (λ (o : Option ℕ). elim o [ None ↦ last_place p (writers_of vs) | Some i ↦ Some i ]) e

-- the place of a writer's version is in the chain
pub own_within : (vs : List Version) (t i : ℕ) → Some i ≡ first_place (λ w. eqb w t) (writers_of vs) → i < length vs
own_within vs t i e = let found = subst (λ o. IsFirst (λ w. eqb w t) (writers_of vs) o) (sym e) (first_place-found (λ w. eqb w t) (writers_of vs)) in omega (arith, found.0, length-writers vs)

-- the place that was found is that of t's version, or t has none and it is the last that passes
pub own_or_last_cases : (t : ℕ) (p : ℕ → Bool) (ws : List ℕ) (r : Option ℕ) → r ≡ own_or_last t p ws
    → ((r ≡ first_place (λ w. eqb w t) ws) × (r ≡ None → ⊥)) ⊎ ((None ≡ first_place (λ w. eqb w t) ws) × (r ≡ last_place p ws))
own_or_last_cases t p ws r e = go (first_place (λ w. eqb w t) ws) refl e
  where
    go : (o : Option ℕ) → o ≡ first_place (λ w. eqb w t) ws → r ≡ elim o [ None ↦ last_place p ws | Some i ↦ Some i ]
        → ((r ≡ first_place (λ w. eqb w t) ws) × (r ≡ None → ⊥)) ⊎ ((None ≡ first_place (λ w. eqb w t) ws) × (r ≡ last_place p ws))
    go None first e = inr (first, e)
    go (Some i) first e = inl (e ∙ first, λ none. let z : Some i ≡ None = sym e ∙ none in cc)
