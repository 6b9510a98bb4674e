use Rattle.tree_guarantees.proofs.Leaves.{type_is_served}
use Rattle.tree_guarantees.proofs.types.type_reads_never_wait.Goals as goal

pub returns-clause-guarantee : goal.returns-clause-guarantee
returns-clause-guarantee c = λ told. type_is_served c.reads_go_on.ensures c.args.tree.now.rows c.args.kind.0 c.keeps_batches_to.result c.keeps_batches_to.ensures told
