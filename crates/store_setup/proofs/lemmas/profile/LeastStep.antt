-- The least step, from a cursor on, that has a table.
use Rattle.std.proofs.Common.{◌≡◌, ℕ, zero, suc, ◌<◌, ◌≤◌, Bool, true, false, ◌&&◌, leb, le-leb, List, [], ◌∷◌, Some, None, refl, ◌∙◌, inl, inr, arith, length, get_or, find}
use Rattle.std.proofs.lemmas.Bool.{cases_eq, leb-true}
use Rattle.std.proofs.lemmas.List.Folds.{find-append}
use Rattle.teb_rules.specs.Setup.{among}
use Rattle.teb_rules.specs.Steps.{least_step}
use Rattle.teb_rules.specs.Tree.{below}

none_below : (p : ℕ → Bool) (n : ℕ) → ((k : ℕ) → k < n → p k ≡ false) → find p (below n) ≡ None
unfolding below
none_below p zero f = refl
none_below p (suc n) f = find-append p (below n) (n ∷ []) ∙ rw (none_below p n (λ k h. f k (omega arith)), f n (omega arith)) refl

first_below : (p : ℕ → Bool) (n i : ℕ) → i < n → p i ≡ true → ((k : ℕ) → k < i → p k ≡ false) → find p (below n) ≡ Some i
unfolding below
first_below p zero i h e f = absurd (omega arith)
first_below p (suc n) i h e f = find-append p (below n) (n ∷ []) ∙ elim (cases_eq n i) [
  | inl q ↦ rw (none_below p n (λ k g. f k (omega arith)), q, e) refl
  | inr q ↦ (let ih = first_below p n i (omega arith) e f in rw ih refl)
]

passed_over : (steps : List (List ℕ)) (cursor a k : ℕ) → (cursor ≤ k → among a (get_or steps k []) ≡ false) → (leb cursor k && among a (get_or steps k [])) ≡ false
passed_over steps cursor a k f = go (leb cursor k) refl
  where
    go : (b : Bool) → leb cursor k ≡ b → (b && among a (get_or steps k [])) ≡ false
    go true e = f (leb-true cursor k e)
    go false e = refl

-- if step i has the table and none before it from the cursor on has, it is the least step
pub least_step_here : (steps : List (List ℕ)) (cursor i a : ℕ) → cursor ≤ i → i < length steps → among a (get_or steps i []) ≡ true
    → ((k : ℕ) → cursor ≤ k → k < i → among a (get_or steps k []) ≡ false) → least_step steps cursor a ≡ Some i
unfolding least_step
least_step_here steps cursor i a from within e f = first_below _ (length steps) i within (rw (le-leb cursor i from, e) refl) (λ k h. passed_over steps cursor a k (λ g. f k g h))

pub no_least_step : (steps : List (List ℕ)) (cursor a : ℕ) → ((k : ℕ) → cursor ≤ k → k < length steps → among a (get_or steps k []) ≡ false) → least_step steps cursor a ≡ None
unfolding least_step
no_least_step steps cursor a f = none_below _ (length steps) (λ k h. passed_over steps cursor a k (λ g. f k g h))
