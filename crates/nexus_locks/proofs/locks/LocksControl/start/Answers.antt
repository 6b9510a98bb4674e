use Rattle.phase_api.specs.FactsView.{setup_of, events_of}
use Rattle.nexus_locks.proofs.Said.{locks_start}
use Rattle.nexus_locks.proofs.locks.LocksControl.start.Goals as goal

pub returns : goal.returns
returns c = locks_start (setup_of c.args._facts.now) (events_of c.args._facts.now) c.args._s c.args.self.now.register.node.0 c.requires.stands.kind
