use Rattle.std.proofs.Common.{◌∙◌, ap, false}
use Rattle.phase_api.specs.FactsView.{setup_of, events_of}
use Rattle.access_conflicts.specs.Waits.{wait_for_txn}
use Rattle.nexus_locks.proofs.Said.{locks_access}
use Rattle.nexus_locks.proofs.locks.LocksControl.before_read.Goals as goal

pub returns : goal.returns
returns c = locks_access (setup_of c.args.facts.now) (events_of c.args.facts.now) c.args.self.now.register.node.0 c.args.t.0 c.args.cell false _ c.requires.stands.kind
    (c.wait_for.ensures ∙ ap wait_for_txn c.blocker.ensures)
