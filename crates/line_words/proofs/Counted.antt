-- Texts that are built number by number.
use Rattle.std.proofs.Common.{◌≡◌, ℕ, suc, ◌+◌, List, [], ◌++◌, sym, ap, ◌∙◌, subst, arith}
use Rattle.std.specs.List.{flat_map}
use Rattle.std.proofs.lemmas.List.{append-nil, flat_map_more}
use Rattle.teb_rules.specs.Tree.{below}

pub counted_none : (f : ℕ → List ℕ) (out : List ℕ) → out ≡ out ++ flat_map f (below 0)
unfolding below
counted_none f out = sym (append-nil out)

pub counted_more : (f : ℕ → List ℕ) (n : ℕ) (old out new : List ℕ) → out ≡ old ++ flat_map f (below n) → new ≡ out ++ f n → new ≡ old ++ flat_map f (below (n + 1))
unfolding below
counted_more f n old out new so_far put =
    put ∙ ap (λ (l : List ℕ). l ++ f n) so_far ∙ flat_map_more f old (below n) n ∙ ap (λ (k : ℕ). old ++ flat_map f (below k)) (let z : suc n ≡ n + 1 = omega arith in z)

pub counted_all : (f : ℕ → List ℕ) (n m : ℕ) (old out : List ℕ) → n ≡ m → out ≡ old ++ flat_map f (below n) → out ≡ old ++ flat_map f (below m)
counted_all f n m old out e so_far = subst (λ (k : ℕ). out ≡ old ++ flat_map f (below k)) e so_far
