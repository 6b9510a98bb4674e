use Rattle.std.proofs.Common.{◌≡◌, not, drop, find}
use Rattle.teb_rules.specs.declared.names.Txn.{Txn}
use Rattle.phase_api.specs.FactsView.{setup_of, events_of}
use Rattle.runtime_pipeline.specs.Standing.{passed_some}
use Rattle.runtime_pipeline.proofs.pipeline.Pipeline.first_ahead.Given as goal

abbrev pub invariant-loop-u : goal.invariant-loop-u
invariant-loop-u l = find (λ (u : Txn). not (passed_some (setup_of l.fn.facts) (events_of l.fn.facts) l.fn.self.register.node.0 u.0 l.fn.rank)) (drop l.u-index l.u-items) ≡ find
    (λ (u : Txn). not (passed_some (setup_of l.fn.facts) (events_of l.fn.facts) l.fn.self.register.node.0 u.0 l.fn.rank)) l.u-items
