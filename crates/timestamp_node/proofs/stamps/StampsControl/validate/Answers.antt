use Rattle.phase_api.specs.FactsView.{setup_of, events_of}
use Rattle.timestamp_node.proofs.Said.{stamps_validate}
use Rattle.timestamp_node.proofs.stamps.StampsControl.validate.Goals as goal

pub returns : goal.returns
returns c = stamps_validate (setup_of c.args._facts.now) (events_of c.args._facts.now) c.args.self.now.node.0 c.requires.stands.kind c.args._t.0
