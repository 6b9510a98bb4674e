use Rattle.std.proofs.Common.{List, ℕ, subst, sym, ◌∙◌, ap}
use Rattle.engine_core.specs.EngineModel.{EngineModel}
use Rattle.epoch_journal.specs.State.{JournalState}
use Rattle.epoch_store.specs.Stored.{Stored}
use Rattle.engine_store.specs.Telling.{TellsCommits}
use Rattle.engine_store.proofs.store.EngineStore.into_disk.Goals as goal

pub returns-clause-images : goal.returns-clause-images
returns-clause-images g c =
    let d = g.D.Disk in
    let s = c.args.self in
    let whole = subst (λ (s : Stored EngineModel _). (image : List ℕ) → d.may_leave s.journal.disk image → TellsCommits s.journal.layout s.engine.store s.engine.events s.journal.acknowledged image)
    c.self.view_is
    c.into_parts-engine.ensures.images in
    subst (λ (disk : _). (image : List ℕ) → d.may_leave disk image → TellsCommits s.journal.layout s.engine.store s.engine.events s.journal.acknowledged image)
    (sym (c.into_disk.ensures.disk ∙ ap (λ (j : JournalState _). j.disk) (c.into_parts-engine.ensures.parts.1 ∙ ap (λ (s : Stored EngineModel _). s.journal) c.self.view_is)))
    whole
