use Rattle.std.proofs.Common.{◌≡◌, drop, find}
use Rattle.teb_rules.specs.declared.names.Txn.{Txn}
use Rattle.phase_api.specs.FactsView.{setup_of, events_of}
use Rattle.timestamp_node.proofs.Said.{holds_back}
use Rattle.timestamp_node.proofs.stamps.StampsControl.gate.Given as goal

abbrev pub invariant-loop-u : goal.invariant-loop-u
invariant-loop-u l =
    let p = λ (u : Txn). holds_back (setup_of l.fn.facts) (events_of l.fn.facts) l.fn.self.node.0 l.fn.t.0 u.0 in
    find p (drop l.u-index l.u-items) ≡ find p l.u-items
