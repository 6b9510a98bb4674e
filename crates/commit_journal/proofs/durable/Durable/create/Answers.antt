use Rattle.commit_journal.proofs.Asked.{keeps_none, none_first}
use Rattle.commit_journal.proofs.durable.Durable.create.Goals as goal

pub invariant_of-result : goal.invariant_of-result
invariant_of-result g c = keeps_none g.D.Disk.seen g.D.Disk.may_leave c.args.engine.store c.args.engine.events c.in-Ok.journal c.requires c.in-Ok.ensures.empty.0

pub returns-in-Ok-clause-images : goal.returns-in-Ok-clause-images
returns-in-Ok-clause-images g c image left = none_first c.args.engine.store c.args.engine.events _ image c.requires (c.in-Ok.ensures.empty.0.each image left)
