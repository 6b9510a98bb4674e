use Rattle.phase_api.specs.FactsView.{setup_of, events_of}
use Rattle.batch_book.proofs.Telling.{joined_from}
use Rattle.snapshot_node.proofs.asked.Asked.recent.Goals as goal

pub horizon-requires : goal.horizon-requires
horizon-requires c = joined_from _ (setup_of c.args.self.now.facts.now) (events_of c.args.self.now.facts.now) c.args.self.now.register.now.node.0 c.args.t.0 c.args.self.now.stands.batches
    c.requires.typed.begun c.requires.on

pub invariant_of-result : goal.invariant_of-result
invariant_of-result c = record {
  below = c.horizon.ensures.closed (setup_of c.args.self.now.facts.now) (events_of c.args.self.now.facts.now) c.args.self.now.register.now.node.0
      c.args.self.now.stands.batches;
}
