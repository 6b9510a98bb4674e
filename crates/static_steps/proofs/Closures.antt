-- The closure of arrows, in rows.
use Rattle.std.proofs.Common.{◌≡◌, ℕ, zero, suc, ◌+◌, ◌<◌, ◌≤◌, Bool, true, false, ◌&&◌, ◌||◌, List, length, get_or, ◌≢◌, set, refl, sym, ◌∙◌, inl, inr, arith, get_or-set_same, get_or-set_other}
use Rattle.std.proofs.lemmas.Bool.{cases_eq, cases_lt}
use Rattle.teb_rules.specs.Steps.{arrow, reaches}
use Rattle.teb_rules.proofs.lemmas.names.Bools.{or_false}
use Rattle.static_steps.specs.Squares.{is_in, leads_in, closure}
use Rattle.static_steps.proofs.Square.{no_row}

-- a row after the closure through table m
abbrev pub through_row : List ℕ → ℕ → ℕ → ℕ → Bool
through_row rows m a b = leads_in rows a b || (leads_in rows a m && leads_in rows m b)

-- row i has the table, so the table's row is added to it
pub row_closed : (old rows : List ℕ) (i m n r : ℕ) → i < length rows → n ≡ m →
    ((a b : ℕ) → a < i → leads_in rows a b ≡ through_row old m a b) → ((a : ℕ) → i ≤ a → get_or rows a 0 ≡ get_or old a 0) →
    is_in (get_or rows i 0) m ≡ true → ((b : ℕ) → is_in r b ≡ (is_in (get_or rows i 0) b || is_in (get_or old n 0) b)) →
    ((a b : ℕ) → a < i + 1 → leads_in (set rows i r) a b ≡ through_row old m a b) × ((a : ℕ) → i + 1 ≤ a → get_or (set rows i r) a 0 ≡ get_or old a 0)
unfolding leads_in
row_closed old rows i m n r h q f g has join = (
  (λ a b lt. elim (cases_eq a i) [
    | inl e ↦ (
        let own : get_or (set rows i r) a 0 ≡ r = rw e (get_or-set_same rows i r 0 h) in
        let was : get_or rows i 0 ≡ get_or old a 0 = rw e (g i (omega arith)) in
        let hit : is_in (get_or old a 0) m ≡ true = rw was at has in
        let joined : is_in r b ≡ (is_in (get_or old a 0) b || is_in (get_or old m 0) b) = rw was at (rw q at (join b)) in
        rw (own, joined, hit) refl)
    | inr ne ↦ rw (get_or-set_other rows i a r 0 ne) (f a b (omega arith))
  ]),
  (λ a le. let ne : a ≢ i = omega arith in get_or-set_other rows i a r 0 ne ∙ g a (omega arith)),
)

-- row i does not have the table and stays
pub row_kept : (old rows : List ℕ) (i m : ℕ) → ((a b : ℕ) → a < i → leads_in rows a b ≡ through_row old m a b) → ((a : ℕ) → i ≤ a → get_or rows a 0 ≡ get_or old a 0) →
    is_in (get_or rows i 0) m ≡ false →
    ((a b : ℕ) → a < i + 1 → leads_in rows a b ≡ through_row old m a b) × ((a : ℕ) → i + 1 ≤ a → get_or rows a 0 ≡ get_or old a 0)
unfolding leads_in
row_kept old rows i m f g has_not = (
  (λ a b lt. elim (cases_eq a i) [
    | inl e ↦ (
        let same : get_or rows a 0 ≡ get_or old a 0 = g a (omega arith) in
        let miss : is_in (get_or old a 0) m ≡ false = rw same at (rw (← e) at has_not) in
        rw (same, miss) (sym (or_false (is_in (get_or old a 0) b))))
    | inr ne ↦ f a b (omega arith)
  ]),
  (λ a le. g a (omega arith)),
)

-- the closure through one more table
pub closure_more : (r : ℕ → ℕ → Bool) (old new : List ℕ) (m : ℕ) → ((a b : ℕ) → leads_in old a b ≡ closure r m a b) →
    ((a b : ℕ) → leads_in new a b ≡ (leads_in old a b || (leads_in old a m && leads_in old m b))) →
    (a b : ℕ) → leads_in new a b ≡ closure r (suc m) a b
unfolding closure
closure_more r old new m f g a b = g a b ∙ rw (f a b, f a m, f m b) refl

-- the closure of the arrows is the relation `reaches`
pub closure_reaches : (ps : List (List (List ℕ))) (r : ℕ → ℕ → Bool) → ((a b : ℕ) → r a b ≡ arrow ps a b) → (m a b : ℕ) → closure r m a b ≡ reaches ps m a b
unfolding closure reaches
closure_reaches ps r f zero a b = f a b
closure_reaches ps r f (suc m) a b =
    let p = closure_reaches ps r f m a b in
    let q = closure_reaches ps r f m a m in
    let s = closure_reaches ps r f m m b in
    rw (p, q, s) refl

-- all rows are closed, and there are none after them
pub past_all : (old rows : List ℕ) (i m : ℕ) → length old ≤ i → length rows ≡ length old → ((a b : ℕ) → a < i → leads_in rows a b ≡ through_row old m a b) →
    (a b : ℕ) → leads_in rows a b ≡ through_row old m a b
past_all old rows i m h e f a b = elim (cases_lt a i) [
  | inl lt ↦ f a b lt
  | inr le ↦ rw (no_row rows a b (omega arith), no_row old a b (omega arith), no_row old a m (omega arith)) refl
]
