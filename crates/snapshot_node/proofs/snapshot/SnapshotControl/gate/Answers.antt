use Rattle.phase_api.specs.FactsView.{setup_of, events_of}
use Rattle.snapshot_node.proofs.Said.{snapshot_gate}
use Rattle.snapshot_node.proofs.snapshot.SnapshotControl.gate.Goals as goal

pub returns : goal.returns
returns c = snapshot_gate (setup_of c.args._facts.now) (events_of c.args._facts.now) c.args.self.now.register.node.0 c.args._t.0 c.requires.stands.register.kind
