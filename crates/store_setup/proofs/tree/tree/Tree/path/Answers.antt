use Rattle.std.proofs.Common.{rules, ap, ◌∙◌}
use Rattle.store_setup.specs.tree.Grown.{node_numbers}
use Rattle.store_setup.proofs.lemmas.tree.Paths.{nodes_within}
use Rattle.store_setup.proofs.tree.tree.Tree.path.Goals as goal

pub returns-clause-within : goal.returns-clause-within
returns-clause-within c = nodes_within c.args.self.now (search rules) c.args.s (search rules) c.nodes.result.now (ap node_numbers c.nodes.ensures ∙ c.stored.ensures.nodes)
