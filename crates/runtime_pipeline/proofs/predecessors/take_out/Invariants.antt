use Rattle.std.proofs.Common.{drop}
use Rattle.runtime_pipeline.proofs.ListEdits.{IsTaking}
use Rattle.runtime_pipeline.proofs.predecessors.take_out.Given as goal

abbrev pub invariant-loop-u : goal.invariant-loop-u
invariant-loop-u l = IsTaking l.t.0 l.behind (drop l.u-index l.behind) l.initial.lists l.lists
