use Rattle.toml.specs.View.{table_view}
use Rattle.tree_toml.proofs.Profiles.{never}
use Rattle.tree_toml.proofs.steps.read_profile.Goals as goal

pub unreachable-requires : goal.unreachable-requires
unreachable-requires c = never c.args.place c.args.tables.now (table_view c.args.entry.now) _ _ c.requires c.in_ok-steps.ensures c.in-Err.ensures
