use Rattle.std.proofs.Common.{◌≡◌, ◌++◌, drop}
use Rattle.phase_api.specs.FactsView.{setup_of, events_of}
use Rattle.store_setup.specs.tree.Grown.{node_numbers}
use Rattle.serial_order.specs.Keys.{key_along, cut_key}
use Rattle.serial_order.proofs.booked.Booked.push_key.Given as goal

abbrev pub invariant-loop-n : goal.invariant-loop-n
invariant-loop-n l =
    let S = setup_of l.self.facts.now in
    let H = events_of l.self.facts.now in
    l.numbers.items ++ key_along S H l.t.0 (node_numbers (drop l.n-index l.n-items)) ≡ l.fn.numbers.items ++ cut_key S H l.t.0
