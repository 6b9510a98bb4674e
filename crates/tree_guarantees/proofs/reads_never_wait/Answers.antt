use Rattle.std.proofs.Common.{◌∙◌, ap}
use Rattle.std.specs.List.{list_all}
use Rattle.teb_rules.specs.Tree.{has_batches}
use Rattle.tree_guarantees.proofs.Paths.{reads_are_free, reads_are_served}
use Rattle.tree_guarantees.proofs.reads_never_wait.Goals as goal

pub returns-clause-condition : goal.returns-clause-condition
returns-clause-condition c = λ X H t p q. reads_are_free X H t c.args.tree.now.rows c.args.spot c.keep_batches.result
    (c.keep_batches.ensures ∙ ap (list_all (has_batches c.args.tree.now.rows)) c.path.ensures.nodes) p q

pub returns-clause-guarantee : goal.returns-clause-guarantee
returns-clause-guarantee c = λ told. reads_are_served c.reads_go_on.ensures c.args.tree.now.rows c.args.spot c.keep_batches.result
    (c.keep_batches.ensures ∙ ap (list_all (has_batches c.args.tree.now.rows)) c.path.ensures.nodes) told
