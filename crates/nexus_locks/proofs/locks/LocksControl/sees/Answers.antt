use Rattle.std.proofs.Common.{◌∙◌}
use Rattle.phase_api.specs.FactsView.{setup_of, events_of}
use Rattle.nexus_locks.proofs.Said.{locks_sees}
use Rattle.nexus_locks.proofs.locks.LocksControl.sees.Goals as goal

pub returns : goal.returns
returns c = c.is_committed.ensures ∙ locks_sees (setup_of c.args.facts.now) (events_of c.args.facts.now) c.args.self.now.register.node.0 c.args._reader.0 c.args.writer.0 c.args._cell
    c.requires.stands.kind
