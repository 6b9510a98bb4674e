use Rattle.std.proofs.Common.{◌≡◌, [], drop, length, map}
use Rattle.toml.specs.View.{view}
use Rattle.tree_toml.specs.Reading.{each}
use Rattle.tree_toml.specs.Nodes.{node_name}
use Rattle.tree_toml.proofs.nodes.add_names.Given as goal

abbrev pub invariant-loop-value : goal.invariant-loop-value
invariant-loop-value l = record {
  count : l.index ≡ l.value-index;
  names : length l.names ≡ l.value-index;
  rest : each (node_name l.format) l.index l.names (map view (drop l.value-index l.array)) ≡ each (node_name l.format) 0 [] (map view l.array);
}
