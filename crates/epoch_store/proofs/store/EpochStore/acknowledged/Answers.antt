use Rattle.std.proofs.Common.{◌≡◌, false, length, ap, subst}
use Rattle.epoch_store.specs.Stored.{Stored}
use Rattle.epoch_store.proofs.store.EpochStore.acknowledged.Goals as goal

pub returns-clause-all : goal.returns-clause-all
returns-clause-all g c =
    let e = g.E.Recorder in
    subst (λ (s : Stored _ _). s.journal.stopped ≡ false → s.journal.acknowledged ≡ length (e.records s.engine)) c.self.view_is
    c.self.invariant.all_safe
