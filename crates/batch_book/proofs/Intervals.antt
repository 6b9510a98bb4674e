-- Where batches start and close, event by event.
use Rattle.std.proofs.Common.{◌≡◌, ℕ, suc, ◌<◌, Bool, true, false, cond, ◌&&◌, ◌||◌, List, [], ◌∷◌, length, Option, Some}
use Rattle.std.proofs.Common.{None, refl, sym, ◌∙◌, ap, subst, inl, inr, arith, eq-eqb, le_refl, lt-ltb, le-ltb, ltb-true}
use Rattle.std.proofs.lemmas.Bool.{cases_Bool, cases_lt, both_ways, and_parts, and_from, and_cases, and_left, and_right, not_from_true}
use Rattle.std.specs.List.{list_all}
use Rattle.teb_rules.specs.declared.history.Event.{Event}
use Rattle.teb_rules.specs.declared.history.Event.TheVariants.{Began}
use Rattle.teb_rules.specs.history.Positions.{upto, first, last, first_event, newest, came}
use Rattle.teb_rules.specs.history.Phases.{is_began, began_at, begun, unfinished, txns}
use Rattle.teb_rules.proofs.lemmas.history.Chains.{length-upto}
use Rattle.teb_rules.specs.Setup.{Setup}
use Rattle.teb_rules.specs.Serializes.{In}
use Rattle.teb_rules.specs.Tree.{on, side}
use Rattle.teb_rules.specs.Batches.{idle, opens, start, close}
use Rattle.teb_rules.proofs.lemmas.laws.Positions.{upto_all, upto_cons, first-holds, before, now, later, first_cases}
use Rattle.teb_rules.proofs.lemmas.laws.Timeline.{begun-upto}
use Rattle.batch_book.specs.Book.{closed_at}
use Rattle.batch_book.specs.Histories.{IsNumbered, closing}
use Rattle.batch_book.proofs.Numbered.{begun_none, begun_step, begins_new, unfinished_parts, unfinished_before, txns-In, on_kept, side_kept}

began_lt : (H : List Event) (u : ℕ) → begun H u ≡ true → began_at H u < length H
unfolding begun
began_lt H u h = ltb-true _ _ h

began_kept : (e : Event) (P : List Event) (u : ℕ) → begun P u ≡ true → began_at (e ∷ P) u ≡ began_at P u
unfolding begun began_at first_event
began_kept e P u h = elim (first_cases (newest (is_began u)) e P) [
  | before a b ↦ b
  | now a b c ↦ (let z = ltb-true _ _ h in absurd (omega arith))
  | later a b c ↦ (let z = ltb-true _ _ h in absurd (omega arith))
]

began_now : (e : Event) (P : List Event) (u : ℕ) → begun P u ≡ false → is_began u e ≡ true → began_at (e ∷ P) u ≡ length P
unfolding begun began_at first_event
began_now e P u h b = elim (first_cases (newest (is_began u)) e P) [
  | before a c ↦ absurd (both_ways _ h (lt-ltb _ _ a))
  | now a c d ↦ d
  | later a c d ↦ absurd (both_ways _ c b)
]

-- the start of a transaction that has begun does not change
pub start_kept : (S : Setup) (e : Event) (P : List Event) (n u : ℕ) → begun P u ≡ true → is_began u e ≡ false → start S (e ∷ P) n u ≡ start S P n u
unfolding start
start_kept S e P n u h b =
    (λ i. last (opens S n (side_kept S e P n u b i)) (upto (suc (began_kept e P u h i)) (e ∷ P)))
    ∙ ap (last (opens S n (side S P n u))) (upto_cons (suc (began_at P u)) e P (began_lt P u h))

-- the start of the newest transaction is the last opening of its side
pub start_here : (S : Setup) (e : Event) (P : List Event) (n u : ℕ) → begun P u ≡ false → is_began u e ≡ true → start S (e ∷ P) n u ≡ last (opens S n (side S (e ∷ P) n u)) (e ∷ P)
unfolding start
start_here S e P n u h b =
    (λ i. last (opens S n (side S (e ∷ P) n u)) (upto (suc (began_now e P u h b i)) (e ∷ P)))
    ∙ ap (last (opens S n (side S (e ∷ P) n u))) (upto_all (suc (length P)) (e ∷ P) (le_refl _))

pub last_step : (p : List Event → Bool) (e : Event) (P : List Event) → last p (e ∷ P) ≡ cond (p (e ∷ P)) (length P) (last p P)
unfolding last
last_step p e P = refl

last_lt : (p : List Event → Bool) (H : List Event) → 0 < length H → last p H < length H
last_lt p [] h = absurd (omega arith)
last_lt p (e ∷ P) h = elim (cases_Bool (p (e ∷ P))) [
  | inl t ↦ rw (last_step p e P, t) (le_refl _)
  | inr f ↦ rw (last_step p e P, f) (older P (last_lt p P))
]
  where
    older : (P : List Event) → (0 < length P → last p P < length P) → last p P < suc (length P)
    older [] ih = unfold last in omega arith
    older (d ∷ Q) ih = let z = ih (omega arith) in omega arith

pub start-lt : (S : Setup) (H : List Event) (n u : ℕ) → begun H u ≡ true → start S H n u < length H
unfolding start
start-lt S H n u h =
    let b = began_lt H u h in
    let l = length-upto (suc (began_at H u)) H b in
    let z = last_lt (opens S n (side S H n u)) (upto (suc (began_at H u)) H) (omega arith) in
    omega arith

list_all_false : (p : ℕ → Bool) (us : List ℕ) (u : ℕ) → In u us → p u ≡ false → list_all p us ≡ false
list_all_false p [] u i h = absurd i
list_all_false p (v ∷ vs) u i h = elim i [ inl q ↦ and_left _ _ (subst (λ (z : ℕ). p z ≡ false) (sym q) h) | inr j ↦ and_right _ _ (list_all_false p vs u j h) ]

-- a side with an unfinished transaction is not idle
pub busy_idle : (S : Setup) (H : List Event) (n s u : ℕ) → IsNumbered H → unfinished H u ≡ true → on S H n u ≡ true → side S H n u ≡ s → idle S H n s ≡ false
unfolding idle
busy_idle S H n s u l h o e = list_all_false _ (txns H) u (txns-In H u l (unfinished_parts H u h).0) (not_from_true _ (and_from _ _ (and_from _ _ h o) (eq-eqb _ _ e)))

opens_busy : (S : Setup) (n s : ℕ) (e : Event) (P : List Event) → idle S P n s ≡ false → opens S n s (e ∷ P) ≡ false
unfolding opens
opens_busy S n s (Began t z k i) P h = and_right _ _ h
opens_busy S n s _ P h = refl

-- the start of an unfinished transaction is the last opening of its side
pub start_last : (S : Setup) (H : List Event) (n u : ℕ) → IsNumbered H → unfinished H u ≡ true → on S H n u ≡ true → start S H n u ≡ last (opens S n (side S H n u)) H
unfolding IsNumbered
start_last S [] n u l h o = absurd (both_ways _ (begun_none u) (unfinished_parts [] u h).0)
start_last S (e ∷ P) n u l h o = elim (cases_Bool (is_began u e)) [
  | inl b ↦ start_here S e P n u (begins_new e P u l.1 l.0 b) b
  | inr b ↦ (let w = unfinished_before e P u b h in
      let op = sym (on_kept S e P n u b) ∙ o in
      let i = opens_busy S n (side S P n u) e P (busy_idle S P n (side S P n u) u l.1 w op refl) in
      start_kept S e P n u (unfinished_parts P u w).0 b
      ∙ start_last S P n u l.1 w op
      ∙ (λ j. cond (sym i j) (length P) (last (opens S n (side S P n u)) P))
      ∙ sym (last_step (opens S n (side S P n u)) e P)
      ∙ (λ j. last (opens S n (sym (side_kept S e P n u b) j)) (e ∷ P)))
]

-- the position of the first event after which p holds, if there is one
abbrev found : (List Event → Bool) → List Event → Option ℕ
found p H = cond (came H (first p H)) (Some (first p H)) None

found_step : (p : List Event → Bool) (e : Event) (P : List Event) → found p (e ∷ P) ≡ closed_at (p (e ∷ P)) (length P) (found p P)
found_step p e P = elim (first_cases p e P) [
  | before a b ↦ rw (b, lt-ltb (first p P) (suc (length P)) (omega arith), lt-ltb (first p P) (length P) a) refl
  | now a b c ↦ rw (c, b, lt-ltb (length P) (suc (length P)) (le_refl _), le-ltb (first p P) (length P) (omega arith)) refl
  | later a b c ↦ rw (c, b, le-ltb (suc (length P)) (suc (length P)) (le_refl _), le-ltb (first p P) (length P) (omega arith)) refl
]

closing_found : (S : Setup) (H : List Event) (n u s : ℕ) → side S H n u ≡ s → closing S H n u ≡ found (λ Q. begun Q u && idle S Q n s) H
unfolding closing close
closing_found S H n u s e = ap (λ (z : ℕ). found (λ Q. begun Q u && idle S Q n z) H) e

-- the close of a transaction that has begun stays, or is the newest event
pub closing_step : (S : Setup) (e : Event) (P : List Event) (n u : ℕ) → begun P u ≡ true → is_began u e ≡ false → closing S (e ∷ P) n u ≡ closed_at (idle S (e ∷ P) n (side S P n u)) (length P)
    (closing S P n u)
closing_step S e P n u h b =
    let s = side S P n u in
    let p = λ (Q : List Event). begun Q u && idle S Q n (side S P n u) in
    closing_found S (e ∷ P) n u s (side_kept S e P n u b) ∙ found_step p e P
    ∙ (λ i. closed_at ((begun_step e P u ∙ (λ j. b j || h j)) i && idle S (e ∷ P) n s) (length P) (sym (closing_found S P n u s refl) i))

found_none : (S : Setup) (P : List Event) (n u s : ℕ) → begun P u ≡ false → found (λ Q. begun Q u && idle S Q n s) P ≡ None
unfolding begun
found_none S P n u s h =
    let p = λ (Q : List Event). begun Q u && idle S Q n s in
    elim (cases_lt (first p P) (length P)) [
      | inl l ↦ absurd (
          let f = and_parts _ _ (first-holds p P l) in
          let a = ltb-true _ _ (sym (begun-upto P (suc (first p P)) u l) ∙ f.0) in
          both_ways _ h (lt-ltb (began_at P u) (length P) (omega arith)))
      | inr l ↦ ap (λ (b : Bool). cond b (Some (first p P)) None) (le-ltb _ _ l)
    ]

-- the batch of a transaction that begins now is open, since its side is not idle
pub closing_here : (S : Setup) (e : Event) (P : List Event) (n u : ℕ) → begun P u ≡ false → idle S (e ∷ P) n (side S (e ∷ P) n u) ≡ false → closing S (e ∷ P) n u ≡ None
closing_here S e P n u h i =
    let s = side S (e ∷ P) n u in
    let p = λ (Q : List Event). begun Q u && idle S Q n (side S (e ∷ P) n u) in
    closing_found S (e ∷ P) n u s refl ∙ found_step p e P ∙ (λ j. closed_at (and_right (begun (e ∷ P) u) _ i j) (length P) (found_none S P n u s h j))

closed_none : (b : Bool) (at : ℕ) (o : Option ℕ) → closed_at b at o ≡ None → b ≡ false
closed_none true at None h = absurd (cc)
closed_none false at None h = refl
closed_none b at (Some c) h = absurd (cc)

-- while a batch is open, its side is not idle
pub closing_busy : (S : Setup) (H : List Event) (n u : ℕ) → begun H u ≡ true → closing S H n u ≡ None → idle S H n (side S H n u) ≡ false
closing_busy S [] n u h c = absurd (both_ways _ (begun_none u) h)
closing_busy S (e ∷ P) n u h c =
    let s = side S (e ∷ P) n u in
    let p = λ (Q : List Event). begun Q u && idle S Q n (side S (e ∷ P) n u) in
    elim (and_cases _ _ (closed_none _ _ _ (sym (found_step p e P) ∙ sym (closing_found S (e ∷ P) n u s refl) ∙ c))) [
      | inl f ↦ absurd (both_ways _ f h)
      | inr f ↦ f
    ]
