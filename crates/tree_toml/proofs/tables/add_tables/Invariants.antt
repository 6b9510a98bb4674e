use Rattle.std.proofs.Common.{◌≡◌, [], drop, length, map}
use Rattle.toml.specs.View.{view}
use Rattle.tree_toml.specs.Reading.{each}
use Rattle.tree_toml.specs.Tables.{table_in}
use Rattle.tree_toml.proofs.tables.add_tables.Given as goal

abbrev pub invariant-loop-value : goal.invariant-loop-value
invariant-loop-value l = record {
  count : l.index ≡ l.value-index;
  names : length l.names ≡ l.value-index;
  rest : each table_in l.index l.names (map view (drop l.value-index l.array)) ≡ each table_in 0 [] (map view l.array);
}
