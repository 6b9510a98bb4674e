use Rattle.std.proofs.Common.{List, ℕ, subst}
use Rattle.teb_rules.specs.names.Rows.{row_of}
use Rattle.epoch_journal.specs.Telling.{TellsOn}
use Rattle.epoch_store.specs.Stored.{Stored}
use Rattle.epoch_store.proofs.store.EpochStore.into_parts.Goals as goal

pub returns-clause-images : goal.returns-clause-images
returns-clause-images g c =
    let d = g.D.Disk in
    let e = g.E.Recorder in
    subst (λ (s : Stored _ _). (image : List ℕ) → d.may_leave s.journal.disk image → TellsOn s.journal.layout (row_of (e.store s.engine).rows) (e.records s.engine) s.journal.acknowledged image)
    c.self.view_is
    c.self.invariant.each
