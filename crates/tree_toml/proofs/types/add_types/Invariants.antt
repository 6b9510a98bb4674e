use Rattle.std.proofs.Common.{◌≡◌, drop, length, map}
use Rattle.toml.specs.View.{view}
use Rattle.tree_toml.specs.Reading.{each}
use Rattle.tree_toml.specs.Types.{type_in, no_types}
use Rattle.tree_toml.specs.Seen.{types_view}
use Rattle.tree_toml.proofs.types.add_types.Given as goal

abbrev pub invariant-loop-value : goal.invariant-loop-value
invariant-loop-value l = record {
  count : l.index ≡ l.value-index;
  names : length l.types.names ≡ l.value-index;
  rest : each (type_in l.tables) l.index (types_view l.types) (map view (drop l.value-index l.array)) ≡ each (type_in l.tables) 0 no_types (map view l.array);
}
