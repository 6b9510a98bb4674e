use Rattle.std.proofs.Common.{refl}
use Rattle.teb_rules.specs.names.Rows.{row_of}
use Rattle.commit_laws.specs.Commits.{commit_count}
use Rattle.commit_laws.specs.Records.{records_of}
use Rattle.engine_store.proofs.Halves.{not_written, written, written_moment}
use Rattle.engine_store.proofs.write.write_commits.Goals as goal

pub returns-in-Ok-clause-kept : goal.returns-in-Ok-clause-kept
returns-in-Ok-clause-kept g c X H G was since =
    let d = g.D.Disk in
    written d.seen d.may_leave X H G c.args.commits.now.records c.args.journal.now c.write_group.new.journal since was
    (c.in-Ok.ensures.kept (row_of X.rows) (records_of X.setup H) (commit_count H) was.keeps) c.in-Ok.ensures.acknowledged.1

pub returns-in-Ok-clause-any_moment : goal.returns-in-Ok-clause-any_moment
returns-in-Ok-clause-any_moment g c X H G was since =
    let d = g.D.Disk in
    let j = c.write_group.new.journal in
    written_moment d.moment d.left_since X H G (commit_count H) c.args.commits.now.records c.args.journal.now j j since refl
    (c.write_group.ensures.any_moment (row_of X.rows) (records_of X.setup H) (commit_count H) was.keeps)

pub returns-in-Err-clause-not_kept : goal.returns-in-Err-clause-not_kept
returns-in-Err-clause-not_kept g c X H G was since =
    let d = g.D.Disk in
    let n = commit_count H in
    not_written d.seen d.may_leave c.in-Err.why X H G n c.args.commits.now.records c.args.journal.now c.write_group.new.journal c.stop.new.self since was
    (λ is. (c.in-Err.ensures.not_kept (row_of X.rows) (records_of X.setup H) n was.keeps is, (c.in-Err.ensures.fault is).1))
    c.in-Err.ensures.unchanged c.stop.ensures.not_added c.stop.ensures.acknowledged

pub returns-in-Err-clause-any_moment : goal.returns-in-Err-clause-any_moment
returns-in-Err-clause-any_moment g c X H G was since =
    let d = g.D.Disk in
    written_moment d.moment d.left_since X H G (commit_count H) c.args.commits.now.records c.args.journal.now c.write_group.new.journal c.stop.new.self since c.stop.ensures.disk
    (c.write_group.ensures.any_moment (row_of X.rows) (records_of X.setup H) (commit_count H) was.keeps)
