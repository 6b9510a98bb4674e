-- What one more event changes of which transactions are unfinished, and what holds of histories each of whose events could occur.
use Rattle.std.proofs.Common.{◌≡◌, ◌⊎◌, ℕ, ◌<◌, ◌≤◌, Bool, true, false, not, ◌&&◌, ◌||◌, List, [], ◌∷◌, refl, sym, ◌∙◌, ap, subst, inl, inr, arith}
use Rattle.std.proofs.lemmas.Bool.{eqb-true, false_from_ne_true}
use Rattle.teb_rules.specs.declared.history.Event.{Event}
use Rattle.teb_rules.specs.declared.history.Event.TheVariants.{Began, Got, Put, Ready, Done, Gone, Told}
use Rattle.teb_rules.specs.history.Positions.{first_event, came}
use Rattle.teb_rules.specs.history.Phases.{is_began, is_done, is_gone, began_at, done_at, gone_at, begun, committed, aborted, unfinished, begun_count}
use Rattle.teb_rules.proofs.lemmas.history.Any.{came_any}
use Rattle.dependency_book.specs.Orderly.{Orderly}
use Rattle.teb_rules.proofs.lemmas.history.Newest.{begun-cons, committed-cons, aborted-cons}

pub unfinished_is : (P : List Event) (u : ℕ) → unfinished P u ≡ (begun P u && not (committed P u) && not (aborted P u))
unfolding unfinished
unfinished_is P u = refl

pub aborted_same : (e : Event) (P : List Event) (u : ℕ) → is_gone u e ≡ false → aborted (e ∷ P) u ≡ aborted P u
aborted_same e P u h = aborted-cons e P u ∙ ap (λ (b : Bool). b || aborted P u) h

-- an unfinished transaction has begun, and is neither committed nor aborted
pub unfinished_parts : (P : List Event) (u : ℕ) → unfinished P u ≡ true → (begun P u ≡ true) × (committed P u ≡ false) × (aborted P u ≡ false)
unfinished_parts P u h = go (begun P u) (committed P u) (aborted P u) (sym (unfinished_is P u) ∙ h)
  where
    go : (a b c : Bool) → (a && not b && not c) ≡ true → (a ≡ true) × (b ≡ false) × (c ≡ false)
    go true false false h = (refl, refl, refl)
    go true false true h = absurd (cc)
    go true true c h = absurd (cc)
    go false b c h = absurd (cc)

nobody : (q : Event → Bool) → came [] (first_event q []) ≡ false
nobody q = came_any q []

pub nothing_begun : (u : ℕ) → begun [] u ≡ false
unfolding begun began_at
nothing_begun u = nobody (is_began u)

nothing_committed : (u : ℕ) → committed [] u ≡ false
unfolding committed done_at
nothing_committed u = nobody (is_done u)

nothing_aborted : (u : ℕ) → aborted [] u ≡ false
unfolding aborted gone_at
nothing_aborted u = nobody (is_gone u)

clash : (b : Bool) → b ≡ true → b ≡ false → ⊥
clash b h k = let z : true ≡ false = sym h ∙ k in cc

-- a transaction that has begun, committed or been aborted has a number up to the count
pub record Known (P : List Event) (u : ℕ) : Type 0 where
  pub begins : begun P u ≡ true → u ≤ begun_count P
  pub commits : committed P u ≡ true → u ≤ begun_count P
  pub aborts : aborted P u ≡ true → u ≤ begun_count P

either : (a b : Bool) → (a || b) ≡ true → (a ≡ true) ⊎ (b ≡ true)
either true b h = inl refl
either false b h = inr h

pub known : (P : List Event) (u : ℕ) → Orderly P → Known P u
unfolding Orderly begun_count
known [] u o = record {
  begins = λ h. absurd (clash _ h (nothing_begun u));
  commits = λ h. absurd (clash _ h (nothing_committed u));
  aborts = λ h. absurd (clash _ h (nothing_aborted u));
}
known (Began t s k i ∷ P) u o = let ih = known P u o.1 in record {
  begins = λ h. elim (either _ _ (sym (begun-cons (Began t s k i) P u) ∙ h)) [ inl e ↦ omega (arith, eqb-true t.0 u e, o.0) | inr e ↦ omega (arith, ih.begins e) ];
  commits = λ h. omega (arith, ih.commits (sym (committed-cons (Began t s k i) P u) ∙ h));
  aborts = λ h. omega (arith, ih.aborts (sym (aborted-cons (Began t s k i) P u) ∙ h));
}
known (Got t x w v ∷ P) u o = let ih = known P u o.1 in record {
  begins = λ h. ih.begins (sym (begun-cons (Got t x w v) P u) ∙ h);
  commits = λ h. ih.commits (sym (committed-cons (Got t x w v) P u) ∙ h);
  aborts = λ h. ih.aborts (sym (aborted-cons (Got t x w v) P u) ∙ h);
}
known (Put t x v ∷ P) u o = let ih = known P u o.1 in record {
  begins = λ h. ih.begins (sym (begun-cons (Put t x v) P u) ∙ h);
  commits = λ h. ih.commits (sym (committed-cons (Put t x v) P u) ∙ h);
  aborts = λ h. ih.aborts (sym (aborted-cons (Put t x v) P u) ∙ h);
}
known (Ready t ∷ P) u o = let ih = known P u o.1 in record {
  begins = λ h. ih.begins (sym (begun-cons (Ready t) P u) ∙ h);
  commits = λ h. ih.commits (sym (committed-cons (Ready t) P u) ∙ h);
  aborts = λ h. ih.aborts (sym (aborted-cons (Ready t) P u) ∙ h);
}
known (Done t ∷ P) u o = let ih = known P u o.1 in record {
  begins = λ h. ih.begins (sym (begun-cons (Done t) P u) ∙ h);
  commits = λ h. elim (either _ _ (sym (committed-cons (Done t) P u) ∙ h)) [
    | inl e ↦ subst (λ (n : ℕ). n ≤ begun_count P) (eqb-true t.0 u e) ((known P t.0 o.1).begins (unfinished_parts P t.0 o.0).0)
    | inr e ↦ ih.commits e
  ];
  aborts = λ h. ih.aborts (sym (aborted-cons (Done t) P u) ∙ h);
}
known (Gone t c ∷ P) u o = let ih = known P u o.1 in record {
  begins = λ h. ih.begins (sym (begun-cons (Gone t c) P u) ∙ h);
  commits = λ h. ih.commits (sym (committed-cons (Gone t c) P u) ∙ h);
  aborts = λ h. elim (either _ _ (sym (aborted-cons (Gone t c) P u) ∙ h)) [
    | inl e ↦ subst (λ (n : ℕ). n ≤ begun_count P) (eqb-true t.0 u e) ((known P t.0 o.1).begins (unfinished_parts P t.0 o.0).0)
    | inr e ↦ ih.aborts e
  ];
}
known (Told t ∷ P) u o = let ih = known P u o.1 in record {
  begins = λ h. ih.begins (sym (begun-cons (Told t) P u) ∙ h);
  commits = λ h. ih.commits (sym (committed-cons (Told t) P u) ∙ h);
  aborts = λ h. ih.aborts (sym (aborted-cons (Told t) P u) ∙ h);
}

-- a number above the count is not in use
pub fresh : (P : List Event) (u : ℕ) → Orderly P → begun_count P < u → (begun P u ≡ false) × (committed P u ≡ false) × (aborted P u ≡ false)
fresh P u o lt =
    let k = known P u o in
    (false_from_ne_true _ (λ h. omega (arith, k.begins h)), false_from_ne_true _ (λ h. omega (arith, k.commits h)), false_from_ne_true _ (λ h. omega (arith, k.aborts h)))
