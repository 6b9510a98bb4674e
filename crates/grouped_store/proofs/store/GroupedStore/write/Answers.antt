use Rattle.std.proofs.Common.{◌≡◌, ◌+◌, ℕ, true, false, length, refl, ap, subst, sym, ◌∙◌}
use Rattle.std.specs.Prelude.{OnOk, OnErr}
use Rattle.crash_disk.specs.Disk.{LeavesOnly}
use Rattle.engine_store.specs.Telling.{TellsCommits}
use Rattle.grouped_store.specs.Grouped.{Grouped}
use Rattle.grouped_store.proofs.Grouping.{acknowledged_all, acknowledged_if_none_waits, acknowledged_none, each_tells, is_written, keeps_until, of_halves}
use Rattle.grouped_store.proofs.store.GroupedStore.write.Goals as goal

pub invariant_of-self : goal.invariant_of-self
invariant_of-self g c =
    let d = g.D.Disk in
    let s = c.self.inside in
    let runs = ap (λ (v : Grouped _). v.journal.stopped) c.self.view_is ∙ c.requires.running in
    let taken = c.take-group in
    let j = c.write_commits.new.journal in
    let o = c.write_commits.ensures in
    is_written d.seen d.may_leave (of_halves s.queue s.journal) c.self.invariant runs taken.result.records taken.ensures.since j c.write_commits.result o.kept o.not_kept o.running o.stopped o.end
    (of_halves taken.new.self j) taken.ensures.engine refl taken.ensures.waiting o.layout taken.ensures.group taken.ensures.left

pub returns-clause-images : goal.returns-clause-images
returns-clause-images g c =
    let d = g.D.Disk in
    let s = c.self.inside in
    let runs = ap (λ (v : Grouped _). v.journal.stopped) c.self.view_is ∙ c.requires.running in
    let taken = c.take-group in
    let j = c.write_commits.new.journal in
    let o = c.write_commits.ensures in
    let new = of_halves taken.new.self j in
    each_tells d.seen d.may_leave new
    (is_written d.seen d.may_leave (of_halves s.queue s.journal) c.self.invariant runs taken.result.records taken.ensures.since j c.write_commits.result o.kept o.not_kept o.running o.stopped o.end
    new taken.ensures.engine refl taken.ensures.waiting o.layout taken.ensures.group taken.ensures.left)

pub returns-clause-all : goal.returns-clause-all
returns-clause-all g c =
    let d = g.D.Disk in
    let s = c.self.inside in
    let runs = ap (λ (v : Grouped _). v.journal.stopped) c.self.view_is ∙ c.requires.running in
    let taken = c.take-group in
    let j = c.write_commits.new.journal in
    let o = c.write_commits.ensures in
    let new = of_halves taken.new.self j in
    acknowledged_if_none_waits d.seen d.may_leave new
    (is_written d.seen d.may_leave (of_halves s.queue s.journal) c.self.invariant runs taken.result.records taken.ensures.since j c.write_commits.result o.kept o.not_kept o.running o.stopped o.end
    new taken.ensures.engine refl taken.ensures.waiting o.layout taken.ensures.group taken.ensures.left)
    taken.ensures.waiting

pub returns-clause-any_moment : goal.returns-clause-any_moment
returns-clause-any_moment g c =
    let d = g.D.Disk in
    let s = c.self.inside in
    let is = c.self.invariant in
    let X = s.queue.engine.store in
    let G = s.queue.engine.events in
    let runs = ap (λ (v : Grouped _). v.journal.stopped) c.self.view_is ∙ c.requires.running in
    let j = c.write_commits.new.journal in
    let keeps = keeps_until d.seen d.may_leave (of_halves s.queue s.journal) is runs in
    subst (λ (v : Grouped _). LeavesOnly d.moment d.left_since v.journal.disk j.disk (TellsCommits v.journal.layout v.engine.store v.engine.events v.journal.acknowledged)) c.self.view_is
    (subst (λ (n : ℕ). LeavesOnly d.moment d.left_since s.journal.disk j.disk (TellsCommits s.journal.layout X G n)) (sym (is.all runs))
    (c.write_commits.ensures.any_moment X is.until G keeps (c.take-group.ensures.since is.until is.since)))

pub returns-clause-acknowledged : goal.returns-clause-acknowledged
returns-clause-acknowledged g c =
    let d = g.D.Disk in
    let s = c.self.inside in
    let runs = ap (λ (v : Grouped _). v.journal.stopped) c.self.view_is ∙ c.requires.running in
    let taken = c.take-group in
    let j = c.write_commits.new.journal in
    let o = c.write_commits.ensures in
    subst (λ (v : Grouped _). OnOk c.write_commits.result ((j.stopped ≡ false) × (j.acknowledged ≡ v.journal.acknowledged + length v.waiting))) c.self.view_is
    (acknowledged_all d.seen d.may_leave (of_halves s.queue s.journal) c.self.invariant runs taken.result.records taken.ensures.since j c.write_commits.result o.kept o.not_kept o.running
    o.stopped o.end)

pub returns-clause-failed : goal.returns-clause-failed
returns-clause-failed g c =
    let d = g.D.Disk in
    let s = c.self.inside in
    let runs = ap (λ (v : Grouped _). v.journal.stopped) c.self.view_is ∙ c.requires.running in
    let taken = c.take-group in
    let j = c.write_commits.new.journal in
    let o = c.write_commits.ensures in
    subst (λ (v : Grouped _). OnErr c.write_commits.result ((j.stopped ≡ true) × (j.acknowledged ≡ v.journal.acknowledged))) c.self.view_is
    (acknowledged_none d.seen d.may_leave (of_halves s.queue s.journal) c.self.invariant runs taken.result.records taken.ensures.since j c.write_commits.result o.kept o.not_kept o.running
    o.stopped o.end)
