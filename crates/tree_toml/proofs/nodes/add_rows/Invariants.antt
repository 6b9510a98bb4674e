use Rattle.std.proofs.Common.{◌≡◌, [], drop, map}
use Rattle.toml.specs.View.{view}
use Rattle.store_setup.specs.tree.Grown.{rows_of}
use Rattle.tree_toml.specs.Reading.{each}
use Rattle.tree_toml.specs.Nodes.{node_in}
use Rattle.tree_toml.proofs.nodes.add_rows.Given as goal

abbrev pub invariant-loop-value : goal.invariant-loop-value
invariant-loop-value l = record {
  count : l.index ≡ l.value-index;
  rest : each (node_in l.types l.nodes) l.index (rows_of l.rows.items) (map view (drop l.value-index l.array)) ≡ each (node_in l.types l.nodes) 0 [] (map view l.array);
}
