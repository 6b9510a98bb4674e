use Rattle.std.proofs.Common.{List, ap}
use Rattle.teb_rules.specs.declared.names.Txn.{Txn}
use Rattle.sorted_multimap.specs.Multimap.{values_of}
use Rattle.sorted_multimap.specs.Keys.{txn_cmp}
use Rattle.runtime_pipeline.proofs.Following.{noted_none}
use Rattle.runtime_pipeline.proofs.predecessors.Predecessors.new.Goals as goal

pub returns : goal.returns
returns c S n = noted_none S n _ (λ t. ap (λ (es : List (Txn × Txn)). values_of txn_cmp es t) c.narrow.ensures.entries)
