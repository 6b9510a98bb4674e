use Rattle.std.proofs.Common.{ℕ, ap, unwrap_or, ◌∙◌}
use Rattle.phase_api.specs.FactsView.{setup_of, events_of}
use Rattle.batch_book.proofs.Telling.{joined_from}
use Rattle.snapshot_node.proofs.Closing.{close_told}
use Rattle.serial_order.proofs.booked.Booked.close_of.Goals as goal

pub close-requires : goal.close-requires
close-requires c = joined_from c.batches.result.now (setup_of c.args.self.now.facts.now) (events_of c.args.self.now.facts.now) c.args.n.0 c.args.t.0 c.batches.ensures c.requires.here.typed.begun
    c.requires.here.on

pub returns : goal.returns
returns c = c.unwrap_or.ensures ∙ ap (λ (m : ℕ). unwrap_or c.close.result m) c.len.ensures
    ∙ close_told (setup_of c.args.self.now.facts.now) (events_of c.args.self.now.facts.now) c.args.n.0 c.args.t.0 c.close.result
    (c.close.ensures (setup_of c.args.self.now.facts.now) (events_of c.args.self.now.facts.now) c.args.n.0 c.batches.ensures)
