use Rattle.teb_rules.specs.names.Rows.{row_of}
use Rattle.commit_laws.specs.Records.{records_of}
use Rattle.engine_store.proofs.Halves.{keeps_on}
use Rattle.grouped_store.proofs.store.renewed.Goals as goal

pub returns-in-Ok-clause-kept : goal.returns-in-Ok-clause-kept
returns-in-Ok-clause-kept g c X H n was =
    let d = g.D.Disk in
    keeps_on d.seen d.may_leave X H n c.args.journal c.in-Ok.journal was (c.in-Ok.ensures.kept (row_of X.rows) (records_of X.setup H) n was.keeps) c.in-Ok.ensures.same.3
