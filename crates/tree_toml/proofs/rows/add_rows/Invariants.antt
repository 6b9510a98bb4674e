use Rattle.std.proofs.Common.{◌≡◌, [], drop, map}
use Rattle.toml.specs.View.{view}
use Rattle.tree_toml.specs.Reading.{each}
use Rattle.tree_toml.specs.Rows.{row_in}
use Rattle.tree_toml.proofs.rows.add_rows.Given as goal

abbrev pub invariant-loop-value : goal.invariant-loop-value
invariant-loop-value l = record {
  count : l.index ≡ l.value-index;
  rest : each (row_in l.tables) l.index l.rows.entries (map view (drop l.value-index l.array)) ≡ each (row_in l.tables) 0 [] (map view l.array);
}
