-- The leaves of a type, by their parts.
use Rattle.std.specs.Prelude.{ℕ, List, Option, map, unwrap_or, Vec}
use Rattle.std.specs.Option.{option_map}
use Rattle.std.specs.List.{find}
use Rattle.std.specs.declared.alloc.Global.{Global}
use Rattle.teb_rules.specs.declared.names.Node.{Node}
use Rattle.teb_rules.specs.declared.names.Spot.{Spot}
use Rattle.teb_rules.specs.Setup.{NodeRow, among}
use Rattle.teb_rules.specs.Tree.{below, path}
use Rattle.store_setup.specs.tree.Grown.{node_numbers}

-- the number of parts of type k, by the first row that has it
abbrev pub parts_of : ℕ → List NodeRow → Option ℕ
parts_of k T = option_map (λ r. r.parts) (find (λ r. among k r.types) T)

abbrev pub spot_of : ℕ → ℕ → Spot
spot_of k i = record { kind = record { 0 = k }; instance = i }

-- the path of each part of type k
unfoldable pub part_paths : List NodeRow → ℕ → List (List ℕ)
part_paths T k = map (λ i. path T (spot_of k i)) (below (unwrap_or (parts_of k T) 0))

-- lists of nodes as lists of numbers
abbrev pub part_lists : Vec (List Node) Global → List (List ℕ)
part_lists ps = map node_numbers ps.items
