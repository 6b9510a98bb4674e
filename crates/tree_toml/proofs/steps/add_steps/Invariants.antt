use Rattle.std.proofs.Common.{◌≡◌, [], drop, map}
use Rattle.toml.specs.View.{view}
use Rattle.store_setup.specs.profile.Steps.{steps_of}
use Rattle.tree_toml.specs.Reading.{each}
use Rattle.tree_toml.specs.Types.{step_in}
use Rattle.tree_toml.proofs.steps.add_steps.Given as goal

abbrev pub invariant-loop-value : goal.invariant-loop-value
invariant-loop-value l =
    each (step_in l.place l.tables) l.value-index (steps_of l.steps.items) (map view (drop l.value-index l.array)) ≡ each (step_in l.place l.tables) 0 [] (map view l.array)
