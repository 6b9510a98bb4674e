use Rattle.std.proofs.Common.{◌<◌}
use Rattle.store_setup.specs.tree.Grown.{row_of}
use Rattle.tree_toml.specs.Kept.{IsRow}
use Rattle.tree_toml.proofs.Numbers.{unmapped}
use Rattle.tree_toml.proofs.trees.grow.Goals as goal

pub build-requires-clause-kinds : goal.build-requires-clause-kinds
build-requires-clause-kinds c = λ k d h. unmapped (λ n. n < c.args.types) (λ x. x.0) _ (unmapped (IsRow c.args.types) row_of _ c.requires.rows k d h).kinds

pub build-requires-clause-batches : goal.build-requires-clause-batches
build-requires-clause-batches c = λ k d h. (unmapped (IsRow c.args.types) row_of _ c.requires.rows k d h).batch

pub build-requires-clause-parts : goal.build-requires-clause-parts
build-requires-clause-parts c = λ k d h. (unmapped (IsRow c.args.types) row_of _ c.requires.rows k d h).parts
