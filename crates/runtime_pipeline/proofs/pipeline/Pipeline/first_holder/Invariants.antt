use Rattle.std.proofs.Common.{◌≡◌, drop, find}
use Rattle.phase_api.specs.FactsView.{setup_of, events_of}
use Rattle.runtime_pipeline.proofs.Said.{stops}
use Rattle.runtime_pipeline.proofs.pipeline.Pipeline.first_holder.Given as goal

abbrev pub invariant-loop-hold : goal.invariant-loop-hold
invariant-loop-hold l =
    let p = stops (setup_of l.fn.facts) (events_of l.fn.facts) l.fn.self.register.node.0 l.fn.t.0 l.fn.write l.rank in
    find p (drop l.hold-index l.hold-items) ≡ find p l.hold-items
