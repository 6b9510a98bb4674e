-- What is so of the rows of nodes that were read.
use Rattle.std.specs.Prelude.{ℕ, ◌<◌, ◌≤◌, List}
use Rattle.std.specs.List.{All}
use Rattle.teb_rules.specs.Setup.{NodeRow}

-- its types are among so many, its batch has 1 to 1,024 transactions, and its part is one of 1 to 16
pub record IsRow (types : ℕ) (r : NodeRow) : Type 0 where
  pub kinds : All (λ k. k < types) r.types
  pub batch : (1 ≤ r.batch) × (r.batch ≤ 1024)
  pub parts : (1 ≤ r.parts) × (r.parts ≤ 16) × (r.part < r.parts)

abbrev pub AreRows : ℕ → List NodeRow → Type 0
AreRows types rows = All (IsRow types) rows
