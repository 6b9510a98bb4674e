-- What contracts see of a multimap.
use Rattle.std.specs.Prelude.{ℕ, cond, List, [], ◌∷◌}
use Rattle.std.specs.Ordering.{is_eq}
use Rattle.std.specs.declared.cmp.Ordering.{Ordering}

-- values beside their keys, and for how many more there is room
pub record Shown (K V : Type 0) : Type 0 where
  pub entries : List (K × V)
  pub spare : ℕ

-- the values of the key k, in their order
abbrev pub values_of : {K V : Type 0} → (K → K → Ordering) → List (K × V) → K → List V
values_of R [] k = []
values_of R (e ∷ es) k = let r = values_of R es k in cond (is_eq (R e.0 k)) (e.1 ∷ r) r

abbrev pub values_in : {K V : Type 0} → (K → K → Ordering) → Shown K V → K → List V
values_in R p k = values_of R p.entries k
