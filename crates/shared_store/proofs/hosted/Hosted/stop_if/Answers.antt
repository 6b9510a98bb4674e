use Rattle.shared_store.proofs.Living.{stop_taken}
use Rattle.shared_store.proofs.hosted.Hosted.stop_if.Goals as goal

pub returns-then-failed-clause-taken : goal.returns-then-failed-clause-taken
returns-then-failed-clause-taken g c = stop_taken c.args.self.now.entries.items c.stop.new.self.entries.items c.stop.ensures.entries
