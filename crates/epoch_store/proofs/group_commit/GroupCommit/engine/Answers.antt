use Rattle.std.proofs.Common.{List, ℕ, subst}
use Rattle.teb_rules.specs.names.Rows.{row_of}
use Rattle.epoch_journal.specs.Telling.{TellsOn}
use Rattle.epoch_store.specs.Gathering.{Gathering}
use Rattle.epoch_store.proofs.Gathered.{each_tells}
use Rattle.epoch_store.proofs.group_commit.GroupCommit.engine.Goals as goal

pub returns-clause-images : goal.returns-clause-images
returns-clause-images g c =
    let d = g.D.Disk in
    let e = g.E.Recorder in
    let was = c.self.inside in
    subst (λ (s : Gathering _ _). (image : List ℕ) → d.may_leave s.journal.disk image → TellsOn s.journal.layout (row_of (e.store s.engine).rows) (e.records s.engine) s.journal.acknowledged image)
    c.self.view_is
    (each_tells d.seen d.may_leave d.spare_with (row_of (e.store was.engine).rows) (e.records was.engine) was.group.records was.memory was.journal c.self.invariant)
