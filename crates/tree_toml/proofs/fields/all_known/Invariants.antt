use Rattle.std.proofs.Common.{◌≡◌}
use Rattle.toml.specs.View.{table_view}
use Rattle.tree_toml.specs.Fields.{all_known}
use Rattle.tree_toml.proofs.Views.{are_known}
use Rattle.tree_toml.proofs.fields.all_known.Given as goal

abbrev pub invariant-loop-key : goal.invariant-loop-key
invariant-loop-key l = all_known l.list l.format (table_view l.table) ≡ are_known l.list l.format l.key-iterator
