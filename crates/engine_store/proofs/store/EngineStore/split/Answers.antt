use Rattle.std.proofs.Common.{refl, subst}
use Rattle.engine_core.specs.EngineModel.{EngineModel}
use Rattle.epoch_store.specs.Stored.{Stored}
use Rattle.engine_store.specs.Halves.{KeepsCommits}
use Rattle.engine_store.proofs.store.EngineStore.split.Goals as goal

pub returns-clause-kept : goal.returns-clause-kept
returns-clause-kept g c =
    let d = g.D.Disk in
    subst (λ (s : Stored EngineModel _). KeepsCommits d.seen d.may_leave s.engine.store s.engine.events s.journal.acknowledged s.journal) c.self.view_is
    (record { keeps = c.split-queue.ensures.kept; acknowledged = refl })
