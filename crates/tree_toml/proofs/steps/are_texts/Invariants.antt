use Rattle.std.proofs.Common.{◌≡◌, drop, map}
use Rattle.std.specs.List.{list_all}
use Rattle.toml.specs.View.{view}
use Rattle.tree_toml.specs.Types.{is_text}
use Rattle.tree_toml.proofs.steps.are_texts.Given as goal

abbrev pub invariant-loop-value : goal.invariant-loop-value
invariant-loop-value l = list_all is_text (map view (drop l.value-index l.array)) ≡ list_all is_text (map view l.array)
