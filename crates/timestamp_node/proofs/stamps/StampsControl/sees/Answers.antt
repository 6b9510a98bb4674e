use Rattle.std.proofs.Common.{◌∙◌, ltb}
use Rattle.phase_api.specs.FactsView.{setup_of, events_of}
use Rattle.timestamp_node.proofs.Here.{here_joined, left_here, right_here}
use Rattle.timestamp_node.proofs.Said.{stamps_sees}
use Rattle.timestamp_node.proofs.stamps.StampsControl.sees.Goals as goal

pub start-requires : goal.start-requires
start-requires c = here_joined c.args._facts.now c.args.self.now.node.0 c.args.self.now.batches _ c.requires.stands.batches
    (right_here c.args._facts.now c.args.self.now.node.0 c.args.reader.0 c.args.writer.0 c.requires.pair.right c.requires.pair.meet)

pub start-requires-2 : goal.start-requires-2
start-requires-2 c = here_joined c.args._facts.now c.args.self.now.node.0 c.args.self.now.batches _ c.requires.stands.batches
    (left_here c.args._facts.now c.args.self.now.node.0 c.args.reader.0 c.args.writer.0 c.requires.pair.left c.requires.pair.meet)

pub returns : goal.returns
returns c = (λ j. ltb (c.start.ensures _ _ _ c.requires.stands.batches j) (c.start-2.ensures _ _ _ c.requires.stands.batches j))
    ∙ stamps_sees (setup_of c.args._facts.now) (events_of c.args._facts.now) c.args.self.now.node.0 c.requires.stands.kind c.args.reader.0 c.args.writer.0 c.args._cell
