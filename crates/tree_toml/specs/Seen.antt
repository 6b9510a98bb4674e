-- What contracts see of what was read.
use Rattle.tree_toml.specs.declared.types.Types.{Types}
use Rattle.tree_toml.specs.declared.nodes.Nodes.{Nodes}
use Rattle.tree_toml.specs.declared.shares.Share.{Share as ShareRead}
use Rattle.store_setup.specs.tree.Grown.{rows_of}
use Rattle.tree_toml.specs.Types.{TypeList}
use Rattle.tree_toml.specs.Nodes.{NodeList, Share}

abbrev pub types_view : Types → TypeList
types_view t = record { names = t.names; profiles = t.profiles.items }

abbrev pub nodes_view : Nodes → NodeList
nodes_view n = record { names = n.names; rows = rows_of n.rows.items }

abbrev pub share_view : ShareRead → Share
share_view s = record { part = s.part; parts = s.parts }
