use Rattle.std.proofs.Common.{◌<◌, subst, arith}
use Rattle.teb_rules.specs.names.Rows.{row_of}
use Rattle.epoch_journal.specs.Kept.{Keeps}
use Rattle.epoch_journal.proofs.Sizes.{small_half}
use Rattle.epoch_store.specs.Stored.{Stored}
use Rattle.epoch_store.proofs.store.EpochStore.split.Goals as goal

pub returns-clause-kept : goal.returns-clause-kept
returns-clause-kept g c =
    let d = g.D.Disk in
    let e = g.E.Recorder in
    subst (λ (s : Stored _ _). Keeps d.seen d.may_leave (row_of (e.store s.engine).rows) (e.records s.engine) s.journal.acknowledged s.journal) c.self.view_is c.self.invariant

pub invariant_of-queue : goal.invariant_of-queue
invariant_of-queue g c = (c.left.ensures.some, omega (arith, c.left.ensures.left, small_half c.self.inside.journal.layout.capacity))
