use Rattle.std.proofs.Common.{◌≡◌, [], drop, map}
use Rattle.toml.specs.View.{view}
use Rattle.store_setup.specs.tree.Grown.{kind_numbers}
use Rattle.tree_toml.specs.Reading.{each}
use Rattle.tree_toml.specs.Nodes.{member_in}
use Rattle.tree_toml.proofs.members.add_members.Given as goal

abbrev pub invariant-loop-value : goal.invariant-loop-value
invariant-loop-value l =
    each (member_in l.place l.types) l.value-index (kind_numbers l.members.items) (map view (drop l.value-index l.array)) ≡ each (member_in l.place l.types) 0 [] (map view l.array)
