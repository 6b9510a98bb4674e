-- Lists that have one element for each of the numbers 1 to n.
use Rattle.std.proofs.Common.{◌≡◌, ℕ, zero, suc, ◌-◌, ◌<◌, ◌≤◌, List, [], ◌∷◌, ◌++◌, length, map, get_or, refl, sym, ap, ◌∙◌, arith, inl, inr, length-append}
use Rattle.std.proofs.Math.ListN.{set}
use Rattle.std.proofs.Math.Seq.{set-append_seam, get_or-append_seam}
use Rattle.std.proofs.lemmas.List.{map-append, get_or_append_left, set-append_left}
use Rattle.std.proofs.lemmas.Bool.{cases_lt}
use Rattle.teb_rules.specs.history.Phases.{numbers}

map_more : (f : ℕ → ℕ) (n : ℕ) → map f (numbers (suc n)) ≡ map f (numbers n) ++ f (suc n) ∷ []
unfolding numbers
map_more f n = map-append f (numbers n) (suc n ∷ [])

pub length-map-numbers : (f : ℕ → ℕ) (n : ℕ) → length (map f (numbers n)) ≡ n
unfolding numbers
length-map-numbers f zero = refl
length-map-numbers f (suc n) = ap length (map_more f n) ∙ length-append (map f (numbers n)) (f (suc n) ∷ []) ∙ (let e = length-map-numbers f n in omega arith)

-- the element of t
pub at-map-numbers : (f : ℕ → ℕ) (n t : ℕ) → 0 < t → t ≤ n → get_or (map f (numbers n)) (t - 1) 0 ≡ f t
at-map-numbers f zero t h k = absurd (omega arith)
at-map-numbers f (suc n) t h k =
    let e = length-map-numbers f n in
    ap (λ (xs : List ℕ). get_or xs (t - 1) 0) (map_more f n) ∙ elim (cases_lt n t) [
      | inl b ↦ (let i : t ≡ suc n = omega arith in let j : t - 1 ≡ length (map f (numbers n)) = omega arith in
          ap (λ (z : ℕ). get_or (map f (numbers n) ++ f (suc n) ∷ []) z 0) j ∙ get_or-append_seam (map f (numbers n)) (f (suc n)) [] 0 ∙ ap f (sym i))
      | inr b ↦ get_or_append_left (map f (numbers n)) (f (suc n) ∷ []) 0 (t - 1) (omega arith) ∙ at-map-numbers f n t h b
    ]

pub map_same : (f g : ℕ → ℕ) (n : ℕ) → ((u : ℕ) → 0 < u → u ≤ n → f u ≡ g u) → map f (numbers n) ≡ map g (numbers n)
unfolding numbers
map_same f g zero h = refl
map_same f g (suc n) h = map_more f n ∙ ap (λ (xs : List ℕ). xs ++ f (suc n) ∷ []) (map_same f g n (λ u a b. h u a (omega arith)))
    ∙ ap (λ (z : ℕ). map g (numbers n) ++ z ∷ []) (h (suc n) (omega arith) (omega arith)) ∙ sym (map_more g n)

-- replacing the element of t
pub set-map-numbers : (f g : ℕ → ℕ) (n t : ℕ) → 0 < t → t ≤ n → ((u : ℕ) → (u ≡ t → ⊥) → f u ≡ g u) → set (map f (numbers n)) (t - 1) (g t) ≡ map g (numbers n)
set-map-numbers f g zero t h k s = absurd (omega arith)
set-map-numbers f g (suc n) t h k s =
    let e = length-map-numbers f n in
    ap (λ (xs : List ℕ). set xs (t - 1) (g t)) (map_more f n) ∙ elim (cases_lt n t) [
      | inl b ↦ (let i : t ≡ suc n = omega arith in let j : t - 1 ≡ length (map f (numbers n)) = omega arith in
          ap (λ (z : ℕ). set (map f (numbers n) ++ f (suc n) ∷ []) z (g t)) j ∙ set-append_seam (map f (numbers n)) (f (suc n)) [] (g t)
          ∙ ap (λ (xs : List ℕ). xs ++ g t ∷ []) (map_same f g n (λ u a c. s u (λ q. absurd (omega arith)))) ∙ ap (λ (z : ℕ). map g (numbers n) ++ g z ∷ []) i ∙ sym (map_more g n))
      | inr b ↦ set-append_left (map f (numbers n)) (f (suc n) ∷ []) (t - 1) (g t) (omega arith) ∙ ap (λ (xs : List ℕ). xs ++ f (suc n) ∷ []) (set-map-numbers f g n t h b s)
          ∙ ap (λ (z : ℕ). map g (numbers n) ++ z ∷ []) (s (suc n) (λ q. absurd (omega arith))) ∙ sym (map_more g n)
    ]
