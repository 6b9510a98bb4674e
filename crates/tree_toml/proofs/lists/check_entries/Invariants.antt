use Rattle.std.proofs.Common.{◌≡◌, drop, map}
use Rattle.toml.specs.View.{view}
use Rattle.tree_toml.specs.Reading.{each}
use Rattle.tree_toml.specs.Fields.{entry_form}
use Rattle.tree_toml.proofs.lists.check_entries.Given as goal

abbrev pub invariant-loop-value : goal.invariant-loop-value
invariant-loop-value l = record {
  count : l.index ≡ l.value-index;
  rest : each (entry_form l.list) l.index tt (map view (drop l.value-index l.array)) ≡ each (entry_form l.list) 0 tt (map view l.array);
}
