use Rattle.std.proofs.Common.{length, arith}
use Rattle.toml.specs.View.{table_view}
use Rattle.tree_toml.specs.Seen.{nodes_view}
use Rattle.tree_toml.proofs.NodeFacts.{AreNodes, nodes_ok}
use Rattle.tree_toml.proofs.Numbers.{unmapped_length}
use Rattle.tree_toml.proofs.setup.read_lists.Goals as goal
use Rattle.tree_toml.proofs.setup.read_lists.Goals.{After-len}

nodes_are : (c : After-len) → AreNodes (length c.in_ok-types.types.names) (nodes_view c.in_ok-nodes.nodes)
nodes_are c = nodes_ok c.args.format c.in_ok-types.types.names (table_view c.args.table.now) (nodes_view c.in_ok-nodes.nodes) c.in_ok-nodes.ensures

pub grow-requires-clause-rows : goal.grow-requires-clause-rows
grow-requires-clause-rows c = rw c.len.ensures.count (nodes_are c).rows

pub grow-requires-clause-some : goal.grow-requires-clause-some
grow-requires-clause-some c = omega (arith, (nodes_are c).some, unmapped_length c.in_ok-nodes.nodes.rows.items)

pub grow-requires-clause-few : goal.grow-requires-clause-few
grow-requires-clause-few c = omega (arith, (nodes_are c).few, unmapped_length c.in_ok-nodes.nodes.rows.items)
