use Rattle.phase_api.specs.FactsView.{setup_of, events_of}
use Rattle.batch_book.proofs.Telling.{joined_from}
use Rattle.serial_order.proofs.booked.Booked.start_of.Goals as goal

pub start-requires : goal.start-requires
start-requires c = joined_from c.batches.result.now (setup_of c.args.self.now.facts.now) (events_of c.args.self.now.facts.now) c.args.n.0 c.args.t.0 c.batches.ensures c.requires.here.typed.begun
    c.requires.here.on

pub returns : goal.returns
returns c = c.start.ensures (setup_of c.args.self.now.facts.now) (events_of c.args.self.now.facts.now) c.args.n.0 c.batches.ensures
