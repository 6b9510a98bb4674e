use Rattle.std.proofs.Common.{drop}
use Rattle.phase_api.specs.FactsView.{setup_of, events_of}
use Rattle.access_conflicts.specs.Blockers.{in_the_way}
use Rattle.runtime_pipeline.proofs.ListEdits.{IsPutting}
use Rattle.runtime_pipeline.proofs.predecessors.put_holders.Given as goal

abbrev pub invariant-loop-hold : goal.invariant-loop-hold
invariant-loop-hold l = IsPutting (in_the_way (setup_of l.facts) (events_of l.facts) l.node.0 l.t.0 l.write) l.t l.holds (drop l.hold-index l.holds) l.hold-index l.some l.initial.lists l.lists
