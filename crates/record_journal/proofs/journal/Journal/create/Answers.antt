use Rattle.std.proofs.Common.{refl}
use Rattle.record_journal.proofs.Keeping.{runs}
use Rattle.record_journal.proofs.journal.Journal.create.Goals as goal

pub returns-in-Ok-clause-empty : goal.returns-in-Ok-clause-empty
returns-in-Ok-clause-empty g c =
    let d = g.D.Disk in (
      runs d.seen d.may_leave _ _ record {
        at_rest = c.in-Ok.ensures.empty.0;
        durable = c.in-Ok.ensures.empty.1;
        all = refl;
      },
      refl,
      refl,
    )
