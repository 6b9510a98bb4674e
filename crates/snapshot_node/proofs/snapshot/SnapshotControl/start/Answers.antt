use Rattle.std.proofs.Common.{◌∙◌, ap}
use Rattle.phase_api.specs.FactsView.{setup_of, events_of}
use Rattle.access_conflicts.specs.Waits.{wait_for_txn}
use Rattle.snapshot_node.proofs.Said.{snapshot_start, snapshot_start_leaf}
use Rattle.snapshot_node.proofs.snapshot.SnapshotControl.start.Goals as goal

pub returns-in-Some : goal.returns-in-Some
returns-in-Some c =
    let S = setup_of c.args.facts.now in
    let H = events_of c.args.facts.now in
    let n = c.args.self.now.register.node.0 in
    c.wait_for.ensures ∙ ap wait_for_txn (c.full.ensures S H n c.requires.stands.register.batches)
    ∙ snapshot_start S H c.args.s n _ _ c.requires.stands.register.kind (λ e. let z = c.side.ensures.none.1 e in let y = c.in-Some.is in cc) (c.from.ensures ∙ c.in-Some.ensures.side 0)
    c.requires.stands.register.size

pub returns-in-None : goal.returns-in-None
returns-in-None c = snapshot_start_leaf (setup_of c.args.facts.now) (events_of c.args.facts.now) c.args.s c.args.self.now.register.node.0 (c.side.ensures.none.0 c.in-None.is)
