-- What contracts see of versions in one sorted vector.
use Rattle.std.specs.Prelude.{ℕ, ◌+◌, ◌≤◌, List, Vec, vec_len, vec_capacity}
use Rattle.std.specs.declared.alloc.Global.{Global}
use Rattle.version_chain.specs.declared.sorted.Stored.{Stored}
use Rattle.version_chain.specs.Stored.{IsSortedByCell}

-- the versions, and how many more may be placed without memory
pub record Plain : Type 0 where
  pub versions : List Stored
  pub spare : ℕ

abbrev pub plain_of : Vec Stored Global → ℕ → Plain
plain_of v spare = record { versions = v.items; spare = spare }

pub record IsPlain (v : Vec Stored Global) (spare : ℕ) : Type 0 where
  pub sorted : IsSortedByCell v.items
  pub room : vec_len v + spare ≤ vec_capacity v
