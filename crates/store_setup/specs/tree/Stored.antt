-- A tree as it is stored.
use Rattle.std.specs.Prelude.{◌≡◌, ℕ, ◌<◌, ◌%◌, List, [], map, length, get_or}
use Rattle.teb_rules.specs.declared.names.Spot.{Spot}
use Rattle.teb_rules.specs.Tree.{path}
use Rattle.store_setup.specs.declared.tree.tree.Tree.TheInside.{Inside}
use Rattle.store_setup.specs.tree.Grown.{Grown, node_numbers, rows_of}
use Rattle.store_setup.specs.tree.Sound.{IsAccepted}

abbrev pub grown : Inside → Grown
grown t = record { rows = rows_of t.rows.items; types = length t.paths.items }

-- for each type, the paths to its leaves
abbrev pub paths_of : Inside → List (List (List ℕ))
paths_of t = map (λ ps. map node_numbers ps.items) t.paths.items

-- the path of a spot, in a list of the paths of the parts of its type
abbrev pub path_among : List (List ℕ) → Spot → List ℕ
path_among ps s = get_or ps (s.instance % length ps) []

-- the tree is accepted, each type has a leaf, and the paths are those of the rules
pub record IsStored (t : Inside) : Type 0 where
  pub accepted : IsAccepted (grown t)
  pub some : (k : ℕ) → k < length (paths_of t) → 0 < length (get_or (paths_of t) k [])
  pub right : (s : Spot) → s.kind.0 < length (paths_of t) → path_among (get_or (paths_of t) s.kind.0 []) s ≡ path (rows_of t.rows.items) s
