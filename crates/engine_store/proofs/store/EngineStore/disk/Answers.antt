use Rattle.std.proofs.Common.{List, ℕ, subst}
use Rattle.engine_core.specs.EngineModel.{EngineModel}
use Rattle.epoch_store.specs.Stored.{Stored}
use Rattle.engine_store.specs.Telling.{TellsCommits}
use Rattle.engine_store.proofs.store.EngineStore.disk.Goals as goal

pub returns-clause-images : goal.returns-clause-images
returns-clause-images g c =
    let d = g.D.Disk in
    subst (λ (s : Stored EngineModel _). (image : List ℕ) → d.may_leave s.journal.disk image → TellsCommits s.journal.layout s.engine.store s.engine.events s.journal.acknowledged image) c.self.view_is
    c.engine.ensures.images
