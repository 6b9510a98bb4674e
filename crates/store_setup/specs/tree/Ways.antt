-- One step on the way up to the root.
use Rattle.std.specs.Prelude.{◌≡◌, ℕ, ◌-◌, ◌<◌, List, ◌∷◌, Option, Some, None}
use Rattle.teb_rules.specs.declared.names.Node.{Node}
use Rattle.teb_rules.specs.Setup.{NodeRow}
use Rattle.teb_rules.specs.Tree.{climb}

-- if at most `most` parents are taken, the way down to n ends there, or goes on from the node p
abbrev pub Climbs : List NodeRow → ℕ → ℕ → Option Node → Type 0
Climbs T most n None = (lower : List ℕ) → climb T most n lower ≡ n ∷ lower
Climbs T most n (Some p) = (0 < most) × ((lower : List ℕ) → climb T most n lower ≡ climb T (most - 1) p.0 (n ∷ lower))
