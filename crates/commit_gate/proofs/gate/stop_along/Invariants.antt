use Rattle.std.proofs.Common.{◌≡◌, drop}
use Rattle.teb_rules.specs.Stops.{on_commit, stop_of}
use Rattle.store_setup.specs.tree.Grown.{node_numbers}
use Rattle.phase_api.specs.FactsView.{setup_of, events_of}
use Rattle.commit_gate.proofs.gate.stop_along.Given as goal

abbrev pub invariant-loop-n : goal.invariant-loop-n
invariant-loop-n g l =
    let f = on_commit (setup_of l.facts) (events_of l.facts) l.t.0 in
    stop_of f (node_numbers (drop l.n-index l.way)) ≡ stop_of f (node_numbers l.way)
