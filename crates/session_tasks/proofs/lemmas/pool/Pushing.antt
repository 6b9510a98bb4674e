-- The waiting sessions are pushed one after another.
use Rattle.std.proofs.Common.{◌≡◌, ℕ, zero, suc, ◌+◌, ◌-◌, ◌≤◌, List, [], ◌∷◌, Some, All, length, map, drop, sym, ap, ◌∙◌, subst, arith}
use Rattle.std.specs.List.{slice_get}

-- the next element of a list, and the rest after it
drop_next : (xs : List ℕ) (j x : ℕ) (rest : List ℕ) → drop j xs ≡ x ∷ rest → (slice_get xs j ≡ Some x) × (drop (suc j) xs ≡ rest)
drop_next [] zero x rest e = absurd (cc)
drop_next [] (suc j) x rest e = absurd (cc)
drop_next (y ∷ ys) zero x rest e = (let a : y ≡ x = cc in ap Some a, let b : ys ≡ rest = cc in b)
drop_next (y ∷ ys) (suc j) x rest e = drop_next ys j x rest e

module _ {T : Type 0} (numbers : List ℕ) (number : T → ℕ) (fits : T → Type 0) where
  -- d numbers were left to push, x is the next, and e are left after it
  pub record IsNext (d e : ℕ) (x : T) (ts : List T) : Type 0 where
    pub next : slice_get numbers (length numbers - d) ≡ Some (number x)
    pub left : map number ts ≡ drop (length numbers - e) numbers
    pub fit : fits x
    pub rest : All fits ts

  pub fill_step : (d e : ℕ) (us ts : List T) (x : T) → d ≡ e + 1 → d ≤ length numbers → map number us ≡ drop (length numbers - d) numbers → us ≡ x ∷ ts → All fits us → IsNext d e x ts
  fill_step d e us ts x less few left is all =
      let p = drop_next numbers (length numbers - d) (number x) (map number ts) (sym left ∙ ap (map number) is) in
      let a : All fits (x ∷ ts) = subst (All fits) is all in record {
        next = p.0;
        left = sym p.1 ∙ ap (λ (k : ℕ). drop k numbers) (let q : suc (length numbers - d) ≡ length numbers - e = omega arith in q);
        fit = a 0 x (omega arith);
        rest = λ k b l. a (suc k) b (omega arith);
      }
