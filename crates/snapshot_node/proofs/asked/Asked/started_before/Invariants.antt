use Rattle.std.proofs.Common.{ℕ, ◌-◌, ◌<◌, ◌≤◌, length, get_or}
use Rattle.teb_rules.specs.declared.names.Txn.{Txn}
use Rattle.teb_rules.specs.Batches.{start}
use Rattle.phase_api.specs.FactsView.{setup_of, events_of}
use Rattle.snapshot_node.specs.Standing.{writers_in}
use Rattle.snapshot_node.proofs.asked.Asked.started_before.Given as goal

abbrev pub invariant-loop-first : goal.invariant-loop-first
invariant-loop-first l =
    let S = setup_of l.fn.self.facts.now in
    let H = events_of l.fn.self.facts.now in
    let n = l.fn.self.register.now.node.0 in
    let us = writers_in S H n l.fn.cell in
    record {
      ordered : l.first ≤ l.end;
      within : l.end ≤ length us;
      before : (j : ℕ) (d : Txn) → j < l.first → start S H n (get_or us j d).0 < l.at;
      behind : (j : ℕ) (d : Txn) → l.end ≤ j → j < length us → l.at ≤ start S H n (get_or us j d).0;
    }

abbrev pub decreases-loop-first : goal.decreases-loop-first
decreases-loop-first l = l.end - l.first
