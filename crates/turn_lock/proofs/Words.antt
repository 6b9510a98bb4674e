-- The words of the notes, and what is known of them.
use Rattle.std.proofs.Common.{◌≡◌, ℕ, zero, suc, ◌<◌, max, List, [], ◌∷◌, set, length, get_or, sym, refl, ap, ◌∙◌, arith, length-set, get_or-set_same, get_or-set_other, replicate}
use mathlib.Core.Logic.{dite}
use native.Mathlib.Decide.{ℕ_discrete, dec_le}
use lib.Seq.{set-get_or}
use Rattle.turn_lock.specs.Views.{noted, merged}
use Rattle.turn_lock.specs.Rule.{IsKnown}

pub noted_long : (i r : ℕ) (l : List ℕ) → length (noted i r l) ≡ length l
noted_long i zero l = refl
noted_long i (suc r) l = length-set l i (suc r)

-- a read of a word that is already known adds nothing
pub noted_same : (i r : ℕ) (l : List ℕ) → r ≡ get_or l i 0 → noted i r l ≡ l
noted_same i zero l e = refl
noted_same i (suc r) l e = ap (λ (x : ℕ). set l i x) e ∙ set-get_or l i 0

pub noted_known : (i r : ℕ) (l ns : List ℕ) → i < length l → r ≡ get_or ns i 0 → IsKnown l (λ j. get_or ns j 0) → IsKnown (noted i r l) (λ j. get_or ns j 0)
noted_known i zero l ns short e k j some_ = k j some_
noted_known i (suc r) l ns short e k j some_ = dite (ℕ_discrete j i)
    (λ (here : j ≡ i). ap (λ (x : ℕ). get_or ns x 0) here ∙ (sym e ∙ (sym (get_or-set_same l i (suc r) 0 short) ∙ ap (λ (x : ℕ). get_or (set l i (suc r)) x 0) (sym here))))
    (λ other. let z = get_or-set_other l i j (suc r) 0 other in k j (omega arith) ∙ sym z)

-- a word that was read is known
pub noted_at : (i r : ℕ) (l : List ℕ) → i < length l → (0 < get_or l i 0 → r ≡ get_or l i 0) → get_or (noted i r l) i 0 ≡ r
noted_at i zero l short e = dite (dec_le 1 (get_or l i 0)) (λ some_. sym (e some_)) (λ none. omega arith)
noted_at i (suc r) l short e = get_or-set_same l i (suc r) 0 short

-- setting a word that was 0 keeps what is known
pub set_known : (i n : ℕ) (l ns : List ℕ) → get_or ns i 0 ≡ 0 → IsKnown l (λ j. get_or ns j 0) → IsKnown l (λ j. get_or (set ns i n) j 0)
set_known i n l ns was known j some_ = dite (ℕ_discrete j i) (λ (e : j ≡ i). let z : get_or ns j 0 ≡ 0 = ap (λ (x : ℕ). get_or ns x 0) e ∙ was in let y = known j some_ in absurd (omega arith))
    (λ other. get_or-set_other ns i j n 0 other ∙ known j some_)

max_known : (a b n : ℕ) → (0 < a → n ≡ a) → (0 < b → n ≡ b) → 0 < max a b → n ≡ max a b
max_known a b n p q h = dite (dec_le 1 a) (λ pa. dite (dec_le 1 b) (λ pb. let x = p (omega arith) in let y = q (omega arith) in omega arith) (λ nb. let x = p (omega arith) in omega arith))
    (λ na. let y = q (omega arith) in omega arith)

pub merged_known : (a b ns : List ℕ) → IsKnown a (λ j. get_or ns j 0) → IsKnown b (λ j. get_or ns j 0) → IsKnown (merged a b) (λ j. get_or ns j 0)
merged_known [] b ns p q i h = q i h
merged_known (x ∷ xs) [] ns p q i h = p i h
merged_known (x ∷ xs) (y ∷ ys) ns p q zero h = max_known x y (get_or ns 0 0) (p 0) (q 0) h
merged_known (x ∷ xs) (y ∷ ys) [] p q (suc i) h = merged_known xs ys [] (λ j s. p (suc j) s) (λ j s. q (suc j) s) i h
merged_known (x ∷ xs) (y ∷ ys) (n ∷ ns) p q (suc i) h = merged_known xs ys ns (λ j s. p (suc j) s) (λ j s. q (suc j) s) i h

pub merged_long : (a b : List ℕ) → length a ≡ length b → length (merged a b) ≡ length b
merged_long [] b e = refl
merged_long (x ∷ xs) [] e = e
merged_long (x ∷ xs) (y ∷ ys) e = ap suc (merged_long xs ys (omega arith))

pub zeros_at : (n i : ℕ) → get_or (replicate {A = ℕ} n 0) i 0 ≡ 0
zeros_at zero i = refl
zeros_at (suc n) zero = refl
zeros_at (suc n) (suc i) = zeros_at n i

pub zeros_long : (n : ℕ) → length (replicate {A = ℕ} n 0) ≡ n
zeros_long zero = refl
zeros_long (suc n) = ap suc (zeros_long n)
