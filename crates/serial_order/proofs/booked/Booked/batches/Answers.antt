use Rattle.std.proofs.Common.{sym, subst}
use Rattle.phase_api.specs.FactsView.{setup_of, events_of}
use Rattle.batch_book.specs.Book.{Book}
use Rattle.batch_book.specs.Histories.{BatchesOf}
use Rattle.serial_order.proofs.OfControls.{stamps_batches, snapshot_batches}
use Rattle.serial_order.proofs.booked.Booked.batches.Goals as goal

pub returns-in-Timestamp : goal.returns-in-Timestamp
returns-in-Timestamp c =
    let S = setup_of c.args.self.now.facts.now in
    let H = events_of c.args.self.now.facts.now in
    subst (λ (b : Book). BatchesOf b S H c.args.n.0) (sym c.batches.ensures)
    (stamps_batches S H c.args.n.0 c.control_at.result.now c.control_at.ensures.node_number c.control_at.ensures.stands c.in-Timestamp.stamps c.in-Timestamp.is)

pub returns-in-Snapshot : goal.returns-in-Snapshot
returns-in-Snapshot c =
    let S = setup_of c.args.self.now.facts.now in
    let H = events_of c.args.self.now.facts.now in
    subst (λ (b : Book). BatchesOf b S H c.args.n.0) (sym c.batches-in-Snapshot.ensures)
    (snapshot_batches S H c.args.n.0 c.control_at.result.now c.control_at.ensures.node_number c.control_at.ensures.stands c.in-Snapshot.snapshot c.in-Snapshot.is)
