use Rattle.std.proofs.Common.{◌≡◌, drop, find}
use Rattle.phase_api.specs.FactsView.{setup_of, events_of}
use Rattle.snapshot_node.specs.Asking.{is_met}
use Rattle.snapshot_node.proofs.asked.Asked.blocker.Given as goal

abbrev pub invariant-loop-u : goal.invariant-loop-u
invariant-loop-u l =
    let p = is_met (setup_of l.fn.self.facts.now) (events_of l.fn.self.facts.now) l.fn.self.register.now.node.0 l.fn.t.0 in
    find p (drop l.u-index l.fn.among) ≡ find p l.fn.among
