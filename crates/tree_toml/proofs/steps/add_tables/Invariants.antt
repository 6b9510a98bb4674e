use Rattle.std.proofs.Common.{◌≡◌, [], drop, map}
use Rattle.toml.specs.View.{view}
use Rattle.store_setup.specs.profile.Steps.{numbers_of}
use Rattle.tree_toml.specs.Reading.{each}
use Rattle.tree_toml.specs.Types.{step_table_at}
use Rattle.tree_toml.proofs.steps.add_tables.Given as goal

abbrev pub invariant-loop-value : goal.invariant-loop-value
invariant-loop-value l =
    each (step_table_at l.place l.tables) l.value-index (numbers_of l.step.items) (map view (drop l.value-index l.array)) ≡ each (step_table_at l.place l.tables) 0 [] (map view l.array)
