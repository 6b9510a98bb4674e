-- Sets of tables as the bits of a number.
use Rattle.std.proofs.Common.{◌≡◌, ℕ, zero, suc, ◌*◌, ◌/◌, ◌%◌, ◌^◌, ◌<◌, false, ◌||◌, eqb, max, bit_and, bit_or, refl, sym, ◌∙◌, ap, inl, inr, arith, w64, eq-eqb, ne_eqb}
use Rattle.std.specs.Int.{bit_at}
use Rattle.std.proofs.lemmas.Bool.{cases_eq}
use Rattle.std.proofs.lemmas.Nat.Bits.{bit_at_or, bit_at-lt, bit_at-zero, shr_and_one, bit_at_set_same, bit_at_set_other}
use Rattle.static_steps.specs.Squares.{is_in}

of_max : (p q : ℕ) → p < 2 → q < 2 → eqb (max p q) 1 ≡ (eqb p 1 || eqb q 1)
of_max zero zero h g = refl
of_max zero (suc zero) h g = refl
of_max (suc zero) zero h g = refl
of_max (suc zero) (suc zero) h g = refl
of_max (suc (suc p)) q h g = absurd (omega arith)
of_max p (suc (suc q)) h g = absurd (omega arith)

pub in_union : (x y b : ℕ) → is_in (bit_or x y) b ≡ (is_in x b || is_in y b)
unfolding is_in
in_union x y b = rw bit_at_or (of_max (bit_at x b) (bit_at y b) (bit_at-lt x b) (bit_at-lt y b))

pub none_in : (b : ℕ) → is_in 0 b ≡ false
unfolding is_in
none_in b = rw bit_at-zero refl

pub in_with : (set a b : ℕ) → a < 64 → is_in (bit_or set (1 * 2 ^ a % 2 ^ 64)) b ≡ (eqb a b || is_in set b)
unfolding is_in
in_with set a b h = elim (cases_eq a b) [
  | inl e ↦ rw (eq-eqb a b e) (ap (λ (z : ℕ). eqb z 1) (ap (λ (z : ℕ). bit_at (bit_or set (1 * 2 ^ a % 2 ^ 64)) z) (sym e) ∙ bit_at_set_same w64 set a h))
  | inr e ↦ rw (ne_eqb a b e) (ap (λ (z : ℕ). eqb z 1) (bit_at_set_other w64 set a h b (λ q. e (sym q))))
]

pub tested : (set a : ℕ) → eqb (bit_and (set / 2 ^ a) 1) 1 ≡ is_in set a
unfolding is_in
tested set a = rw shr_and_one refl
