-- Whether a batch is full, by its running rows.
use Rattle.std.proofs.Common.{◌≡◌, ℕ, Bool, true, false, cond, ◌&&◌, eqb, leb, List, [], ◌∷◌, filter, map, find, count_by, None, refl, sym, ◌∙◌, ap, inl, inr, eqb-true}
use Rattle.std.proofs.lemmas.Bool.{cases_Bool}
use Rattle.teb_rules.specs.declared.history.Event.{Event}
use Rattle.teb_rules.specs.history.Positions.{last}
use Rattle.teb_rules.specs.history.Phases.{unfinished, txns}
use Rattle.teb_rules.specs.Setup.{Setup}
use Rattle.teb_rules.specs.Serializes.{In}
use Rattle.teb_rules.specs.Tree.{on, side}
use Rattle.teb_rules.specs.Batches.{opens, start}
use Rattle.teb_rules.proofs.lemmas.laws.Serial.{filter-In}
use Rattle.batch_book.specs.Book.{Running, full_on}
use Rattle.batch_book.specs.Histories.{IsNumbered, admitted, members, running_of, running_in, full_at}
use Rattle.batch_book.proofs.Intervals.{start_last}
use Rattle.batch_book.proofs.Lists.{filter-filter}

-- if all transactions of a side are in a batch with the same number admitted, the first of them decides whether it is full
full_is : (f : ℕ → Running) (g a : ℕ → ℕ) (s c size : ℕ) (us : List ℕ) → ((u : ℕ) → In u us → ((f u).txn ≡ u) × ((f u).side ≡ g u)) → ((u : ℕ) → In u us → g u ≡ s → ((f u).admitted ≡ c) × (a u ≡ c)) →
    full_on size s (map f us) ≡ find (λ u. leb size (a u)) (filter (λ u. eqb (g u) s) us)
full_is f g a s c size [] h k = refl
full_is f g a s c size (v ∷ vs) h k = elim (cases_Bool (eqb (g v) s)) [
  | inl t ↦ (let q = k v (inl refl) (eqb-true _ _ t) in
      rw ((h v (inl refl)).1, t, q.0, q.1, (h v (inl refl)).0) (elim (cases_Bool (leb size c)) [
        | inl d ↦ rw d refl
        | inr d ↦ rw d (sym (none vs (λ u i e. (k u (inr i) e).1) d))
      ]))
  | inr t ↦ rw ((h v (inl refl)).1, t) (full_is f g a s c size vs (λ u i. h u (inr i)) (λ u i. k u (inr i)))
]
  where
    none : (us : List ℕ) → ((u : ℕ) → In u us → g u ≡ s → a u ≡ c) → leb size c ≡ false → find (λ u. leb size (a u)) (filter (λ u. eqb (g u) s) us) ≡ None
    none [] f d = refl
    none (v ∷ vs) f d = elim (cases_Bool (eqb (g v) s)) [
      | inl t ↦ rw (t, f v (inl refl) (eqb-true _ _ t), d) (none vs (λ u i. f u (inr i)) d)
      | inr t ↦ rw t (none vs (λ u i. f u (inr i)) d)
    ]

filter-swap : (p q : ℕ → Bool) (us : List ℕ) → filter p (filter q us) ≡ filter q (filter p us)
filter-swap p q us = filter-filter q p us ∙ swap us ∙ sym (filter-filter p q us)
  where
    and_comm : (a b : Bool) → (a && b) ≡ (b && a)
    and_comm true true = refl
    and_comm true false = refl
    and_comm false true = refl
    and_comm false false = refl

    swap : (us : List ℕ) → filter (λ u. q u && p u) us ≡ filter (λ u. p u && q u) us
    swap [] = refl
    swap (v ∷ vs) = λ i. cond (and_comm (q v) (p v) i) (v ∷ swap vs i) (swap vs i)

-- the number of transactions of side s that start where its last batch does
abbrev batch_count : Setup → List Event → ℕ → ℕ → ℕ
batch_count S H n s = count_by (λ u. eqb (start S H n u) (last (opens S n s) H)) (filter (λ u. on S H n u && eqb (side S H n u) s) (txns H))

admitted_batch : (S : Setup) (H : List Event) (n s u : ℕ) → start S H n u ≡ last (opens S n s) H → admitted S H n s u ≡ batch_count S H n s
unfolding admitted
admitted_batch S H n s u q = λ i. count_by (λ v. eqb (start S H n v) (q i)) (filter (λ v. on S H n v && eqb (side S H n v) s) (txns H))

pub full_running : (S : Setup) (H : List Event) (n s size : ℕ) → IsNumbered H → full_on size s (running_in S H n) ≡ full_at S H n s size
unfolding full_at
full_running S H n s size l =
    let c = batch_count S H n s in
    full_is (running_of S H n) (side S H n) (admitted S H n s) s c size (filter (unfinished H) (members S H n)) (λ u i. (refl, refl)) (λ u i q. both u (live u i) q)
    ∙ ap (find (λ u. leb size (admitted S H n s u)))
    (filter-swap (λ u. eqb (side S H n u) s) (unfinished H) (members S H n) ∙ ap (filter (unfinished H)) (filter-filter (on S H n) (λ u. eqb (side S H n u) s) (txns H)))
  where
    live : (u : ℕ) → In u (filter (unfinished H) (members S H n)) → (unfinished H u ≡ true) × (on S H n u ≡ true)
    live u i = let a = filter-In (unfinished H) u (members S H n) i in (a.1, (filter-In (on S H n) u (txns H) a.0).1)

    at : (u : ℕ) → (unfinished H u ≡ true) × (on S H n u ≡ true) → side S H n u ≡ s → start S H n u ≡ last (opens S n s) H
    at u w q = start_last S H n u l w.0 w.1 ∙ ap (λ (y : ℕ). last (opens S n y) H) q

    both : (u : ℕ) → (unfinished H u ≡ true) × (on S H n u ≡ true) → side S H n u ≡ s → (admitted S H n (side S H n u) u ≡ batch_count S H n s) × (admitted S H n s u ≡ batch_count S H n s)
    both u w q = (ap (λ (y : ℕ). admitted S H n y u) q ∙ admitted_batch S H n s u (at u w q), admitted_batch S H n s u (at u w q))
