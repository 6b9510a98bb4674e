use Rattle.std.proofs.Common.{List, ℕ, subst}
use Rattle.engine_store.specs.Telling.{TellsCommits}
use Rattle.grouped_store.specs.Grouped.{Grouped}
use Rattle.grouped_store.proofs.Grouping.{each_tells, of_halves}
use Rattle.grouped_store.proofs.store.GroupedStore.disk.Goals as goal

pub returns-clause-images : goal.returns-clause-images
returns-clause-images g c =
    let d = g.D.Disk in
    let s = c.self.inside in
    subst (λ (v : Grouped _). (image : List ℕ) → d.may_leave v.journal.disk image → TellsCommits v.journal.layout v.engine.store v.engine.events v.journal.acknowledged image) c.self.view_is
    (each_tells d.seen d.may_leave (of_halves s.queue s.journal) c.self.invariant)
