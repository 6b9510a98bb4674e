use Rattle.teb_rules.specs.history.Phases.{begun_count}
use Rattle.phase_api.specs.FactsView.{setup_of, events_of}
use Rattle.timestamp_node.specs.Reads.{reads}
use Rattle.timestamp_node.specs.Late.{is_after}
use Rattle.timestamp_node.proofs.Late.{IsWalked}
use Rattle.timestamp_node.proofs.stamps.Stamps.reader_after.Given as goal

abbrev pub invariant-loop-read : goal.invariant-loop-read
invariant-loop-read g l =
    let S = setup_of l.fn.facts in
    let H = events_of l.fn.facts in
    let n = l.fn.self.node.0 in
    IsWalked (is_after S H n l.fn.t.0 l.fn.cell) (begun_count H) (reads S H n l.fn.cell) l.read-iterator.iter.rest.now l.least
