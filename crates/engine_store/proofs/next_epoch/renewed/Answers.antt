use Rattle.std.proofs.Common.{List, ℕ, subst, sym}
use Rattle.epoch_store.specs.Stored.{Stored}
use Rattle.engine_store.specs.Telling.{TellsCommits}
use Rattle.engine_store.proofs.next_epoch.renewed.Goals as goal

pub returns-in-Err-clause-images : goal.returns-in-Err-clause-images
returns-in-Err-clause-images g c =
    let d = g.D.Disk in
    subst (λ (s : Stored _ _). (image : List ℕ) → d.may_leave s.journal.disk image → TellsCommits s.journal.layout s.engine.engine.store s.engine.engine.events s.journal.acknowledged image)
    (sym c.in-Err.ensures.back)
    c.requires.images
