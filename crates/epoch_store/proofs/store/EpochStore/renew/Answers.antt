use Rattle.std.proofs.Common.{refl}
use Rattle.teb_rules.specs.names.Rows.{row_of}
use Rattle.epoch_store.proofs.Answering.{keeps_same}
use Rattle.epoch_store.proofs.store.EpochStore.renew.Goals as goal

pub invariant_of-result : goal.invariant_of-result
invariant_of-result g c =
    let d = g.D.Disk in
    let e = g.E.Recorder in
    let was = c.self.inside in
    let X = e.store was.engine in
    let rs = e.records was.engine in
    let n = was.journal.acknowledged in
    keeps_same d.seen d.may_leave X X rs rs n c.in-Ok.journal.acknowledged c.in-Ok.journal refl refl c.in-Ok.ensures.same.3
    (c.in-Ok.ensures.kept (row_of X.rows) rs n c.self.invariant)

pub returns-in-Ok-clause-images : goal.returns-in-Ok-clause-images
returns-in-Ok-clause-images g c =
    let d = g.D.Disk in
    let e = g.E.Recorder in
    let was = c.self.inside in
    let X = e.store was.engine in
    let rs = e.records was.engine in
    let n = was.journal.acknowledged in
    (keeps_same d.seen d.may_leave X X rs rs n c.in-Ok.journal.acknowledged c.in-Ok.journal refl refl c.in-Ok.ensures.same.3
    (c.in-Ok.ensures.kept (row_of X.rows) rs n c.self.invariant)).each
