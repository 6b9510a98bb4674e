use Rattle.shared_store.specs.declared.entry.TheConstants.{LOG_SEAT}
use Rattle.shared_store.proofs.Adding.{grows_none}
use Rattle.shared_store.proofs.running.RunningLog.end_if_due.Goals as goal

pub returns-clause-grows : goal.returns-clause-grows
returns-clause-grows g c = grows_none LOG_SEAT c.args.self.hosted.entries.items
