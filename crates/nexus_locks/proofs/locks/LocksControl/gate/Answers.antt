use Rattle.phase_api.specs.FactsView.{setup_of, events_of}
use Rattle.nexus_locks.proofs.Said.{locks_gate}
use Rattle.nexus_locks.proofs.locks.LocksControl.gate.Goals as goal

pub returns : goal.returns
returns c = locks_gate (setup_of c.args._facts.now) (events_of c.args._facts.now) c.args.self.now.register.node.0 c.args._t.0 c.requires.stands.kind
