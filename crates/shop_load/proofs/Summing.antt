-- Counts of transactions and sums of rows, increased by one.
use Rattle.std.proofs.Common.{◌≡◌, ℕ, zero, suc, ◌+◌, ◌<◌, ◌≤◌, Bool, true, false, cond, List, [], ◌∷◌, length, filter, get_or, drop, ℤ, ◌+ℤ◌, refl, ◌∙◌, ap, subst, arith, length-append}
use Rattle.std.specs.Int.{from_bool}
use Rattle.std.proofs.lemmas.List.Elements.{filter-append}
use Rattle.std.proofs.Math.Seq.{drop-cons}
use Rattle.teb_rules.specs.declared.names.Cell.{Cell}
use Rattle.teb_rules.specs.history.Phases.{numbers}
use Rattle.shop_load.specs.Summaries.{added, sum_in}

pub none_counted : (p : ℕ → Bool) → length (filter p (numbers 0)) ≡ 0
unfolding numbers
none_counted p = refl

one_counted : (p : ℕ → Bool) (n : ℕ) → length (filter p (n ∷ [])) ≡ cond (p n) 1 0
one_counted p n = go (p n)
  where
    go : (b : Bool) → length (cond b (n ∷ []) []) ≡ cond b 1 0
    go true = refl
    go false = refl

-- one more transaction
pub counted_more : (p : ℕ → Bool) (n : ℕ) → length (filter p (numbers (n + 1))) ≡ length (filter p (numbers n)) + cond (p (n + 1)) 1 0
unfolding numbers
counted_more p n =
    let e : n + 1 ≡ suc n = omega arith in
    rw e (ap length (filter-append p (numbers n) (suc n ∷ [])) ∙ length-append (filter p (numbers n)) (filter p (suc n ∷ [])) ∙ ap (λ (k : ℕ). length (filter p (numbers n)) + k)
    (one_counted p (suc n)))

-- a test as a number
pub bit_is : (b : Bool) → from_bool b ≡ cond b 1 0
bit_is true = refl
bit_is false = refl

pub at_most_one : (b : Bool) → cond b 1 0 ≤ 1
at_most_one true = omega arith
at_most_one false = omega arith

-- the count is at most the number tested
pub counted_few : (p : ℕ → Bool) (n : ℕ) → length (filter p (numbers n)) ≤ n
counted_few p zero = let z = none_counted p in omega arith
counted_few p (suc n) =
    let e : n + 1 ≡ suc n = omega arith in
    let z = counted_few p n in
    let y : length (filter p (numbers (suc n))) ≡ length (filter p (numbers n)) + cond (p (suc n)) 1 0 = subst
    (λ (k : ℕ). length (filter p (numbers k)) ≡ length (filter p (numbers n)) + cond (p k) 1 0) e (counted_more p n) in
    let w = at_most_one (p (suc n)) in omega arith

-- what the rows from an index on add
pub sum_step : (table i : ℕ) (rows : List (Cell × ℤ)) (d : Cell × ℤ) → i < length rows → sum_in table (drop i rows) ≡ added table (get_or rows i d) +ℤ sum_in table (drop (i + 1) rows)
sum_step table i rows d h = let e : i + 1 ≡ suc i = omega arith in rw e (ap (sum_in table) (drop-cons rows i d h))
