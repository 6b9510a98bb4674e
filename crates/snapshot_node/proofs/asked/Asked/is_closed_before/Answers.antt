use Rattle.phase_api.specs.FactsView.{setup_of, events_of}
use Rattle.batch_book.proofs.Telling.{joined_from}
use Rattle.snapshot_node.proofs.asked.Asked.is_closed_before.Goals as goal

pub is_closed_before-requires-clause-closed : goal.is_closed_before-requires-clause-closed
is_closed_before-requires-clause-closed c = joined_from _ (setup_of c.args.self.now.facts.now) (events_of c.args.self.now.facts.now) c.args.self.now.register.now.node.0 c.args.u.0
    c.args.self.now.stands.batches c.requires.left.typed.begun c.requires.left.on

pub is_closed_before-requires-clause-started : goal.is_closed_before-requires-clause-started
is_closed_before-requires-clause-started c = joined_from _ (setup_of c.args.self.now.facts.now) (events_of c.args.self.now.facts.now) c.args.self.now.register.now.node.0 c.args.t.0
    c.args.self.now.stands.batches c.requires.right.typed.begun c.requires.right.on

pub returns : goal.returns
returns c = c.is_closed_before.ensures _ _ _ c.args.self.now.stands.batches
