-- A walk finds the first element that passes a test.
use Rattle.std.proofs.Common.{◌≡◌, ℕ, zero, suc, ◌<◌, Bool, true, false, cond, List, [], ◌∷◌, length, take, get_or, find, Some, None, sym, ap, arith}

module _ {A : Type 0} (q : A → Bool) where
  pub find_hit : (xs : List A) (i : ℕ) (d : A) → i < length xs → find q (take i xs) ≡ None → q (get_or xs i d) ≡ true → Some (get_or xs i d) ≡ find q xs
  find_hit [] i d lt n h = absurd (omega arith)
  find_hit (x ∷ xs) zero d lt n h = sym (ap (λ (o : Bool). cond o (Some x) (find q xs)) h)
  find_hit (x ∷ xs) (suc i) d lt n h = go (q x) n (find_hit xs i d (omega arith))
    where
      go : (b : Bool) → cond b (Some x) (find q (take i xs)) ≡ None → (find q (take i xs) ≡ None → q (get_or xs i d) ≡ true → Some (get_or xs i d) ≡ find q xs)
          → Some (get_or xs i d) ≡ cond b (Some x) (find q xs)
      go true n f = absurd (cc)
      go false n f = f n h

  pub find_miss : (xs : List A) (i : ℕ) (d : A) → i < length xs → find q (take i xs) ≡ None → q (get_or xs i d) ≡ false → find q (take (suc i) xs) ≡ None
  find_miss [] i d lt n h = absurd (omega arith)
  find_miss (x ∷ xs) zero d lt n h = ap (λ (o : Bool). cond o (Some x) None) h
  find_miss (x ∷ xs) (suc i) d lt n h = go (q x) n (find_miss xs i d (omega arith))
    where
      go : (b : Bool) → cond b (Some x) (find q (take i xs)) ≡ None → (find q (take i xs) ≡ None → q (get_or xs i d) ≡ false → find q (take (suc i) xs) ≡ None)
          → cond b (Some x) (find q (take (suc i) xs)) ≡ None
      go true n f = n
      go false n f = f n h
