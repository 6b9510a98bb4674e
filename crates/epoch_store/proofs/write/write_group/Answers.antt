use Rattle.epoch_store.proofs.Answering.{still_more}
use Rattle.epoch_store.proofs.write.write_group.Goals as goal

pub returns-then-is_empty-clause-any_moment : goal.returns-then-is_empty-clause-any_moment
returns-then-is_empty-clause-any_moment g c start all least keeps =
    let d = g.D.Disk in
    let j = c.args.journal.now in
    still_more d.seen d.may_leave d.moment d.left_since start all c.args.group.now.records least j (g.met.D.Disk.only_now j.disk) keeps

pub returns-then-left-size-clause-any_moment : goal.returns-then-left-size-clause-any_moment
returns-then-left-size-clause-any_moment g c start all least keeps =
    let d = g.D.Disk in
    let j = c.args.journal.now in
    still_more d.seen d.may_leave d.moment d.left_since start all c.args.group.now.records least j (g.met.D.Disk.only_now j.disk) keeps

pub returns-in_default-clause-any_moment : goal.returns-in_default-clause-any_moment
returns-in_default-clause-any_moment g c start all least keeps =
    let d = g.D.Disk in
    let j = c.args.journal.now in
    still_more d.seen d.may_leave d.moment d.left_since start all c.args.group.now.records least j (g.met.D.Disk.only_now j.disk) keeps

pub returns-in-Err-clause-not_kept : goal.returns-in-Err-clause-not_kept
returns-in-Err-clause-not_kept g c start all least keeps is = c.in-Err.ensures.not_added start all least keeps
