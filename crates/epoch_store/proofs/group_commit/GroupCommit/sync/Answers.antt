use Rattle.std.proofs.Common.{◌++◌, List, ℕ, length, refl, sym, subst}
use Rattle.teb_rules.specs.names.Rows.{row_of}
use Rattle.crash_disk.specs.Disk.{LeavesOnly}
use Rattle.record_journal.specs.Format.{Record}
use Rattle.epoch_journal.specs.Telling.{TellsOn}
use Rattle.epoch_store.specs.Gathering.{Gathering}
use Rattle.epoch_store.proofs.Answering.{keeps_same}
use Rattle.epoch_store.proofs.Gathered.{each_tells, keeps_group, waits_still}
use Rattle.epoch_store.proofs.group_commit.GroupCommit.sync.Goals as goal

pub returns-in_default-clause-any_moment : goal.returns-in_default-clause-any_moment
returns-in_default-clause-any_moment g c =
    let d = g.D.Disk in
    let e = g.E.Recorder in
    let was = c.self.inside in
    subst (λ (s : Gathering _ _). LeavesOnly d.moment d.left_since s.journal.disk was.journal.disk
    (TellsOn s.journal.layout (row_of (e.store s.engine).rows) (e.records s.engine) s.journal.acknowledged)) c.self.view_is
    (waits_still d.seen d.may_leave d.spare_with d.moment d.left_since (row_of (e.store was.engine).rows) (e.records was.engine) was.group.records was.memory was.journal
    (g.met.D.Disk.only_now was.journal.disk) c.self.invariant)

pub returns-in_default-clause-images : goal.returns-in_default-clause-images
returns-in_default-clause-images g c =
    let d = g.D.Disk in
    let e = g.E.Recorder in
    let was = c.self.inside in
    subst (λ (s : Gathering _ _). (image : List ℕ) → d.may_leave was.journal.disk image → TellsOn was.journal.layout (row_of (e.store s.engine).rows) (e.records s.engine) was.journal.acknowledged
    image) c.self.view_is
    (each_tells d.seen d.may_leave d.spare_with (row_of (e.store was.engine).rows) (e.records was.engine) was.group.records was.memory was.journal c.self.invariant)

pub invariant_of-result-2 : goal.invariant_of-result-2
invariant_of-result-2 g c =
    let d = g.D.Disk in
    let e = g.E.Recorder in
    let was = c.self.inside in
    let gathers = c.self.invariant in
    let start = row_of (e.store was.engine).rows in
    let n = was.journal.acknowledged in
    let written = c.append_group-written in
    let j = written.new.self in
    let keeps =
    keeps_group d.seen d.may_leave d.spare_with written.result start (gathers.kept ++ was.group.records) was.journal.end n (length was.group.records) j
    (written.ensures.kept start gathers.kept n gathers.keeps) (written.ensures.not_added start gathers.kept n gathers.keeps)
    written.ensures.acknowledged written.ensures.stopped in
    keeps_same d.seen d.may_leave (e.store was.engine) (e.store was.engine) (gathers.kept ++ was.group.records) (e.records was.engine) j.acknowledged j.acknowledged j refl gathers.split refl keeps

pub returns-clause-any_moment : goal.returns-clause-any_moment
returns-clause-any_moment g c =
    let d = g.D.Disk in
    let e = g.E.Recorder in
    let was = c.self.inside in
    let gathers = c.self.invariant in
    let start = row_of (e.store was.engine).rows in
    let n = was.journal.acknowledged in
    let written = c.append_group-written in
    subst (λ (s : Gathering _ _). LeavesOnly d.moment d.left_since s.journal.disk written.new.self.disk
    (TellsOn s.journal.layout (row_of (e.store s.engine).rows) (e.records s.engine) s.journal.acknowledged)) c.self.view_is
    (subst (λ (rs : List Record). LeavesOnly d.moment d.left_since was.journal.disk written.new.self.disk (TellsOn was.journal.layout start rs n)) (sym gathers.split)
    (written.ensures.any_moment start gathers.kept n gathers.keeps))

pub returns-clause-images : goal.returns-clause-images
returns-clause-images g c =
    let d = g.D.Disk in
    let e = g.E.Recorder in
    let was = c.self.inside in
    let gathers = c.self.invariant in
    let start = row_of (e.store was.engine).rows in
    let n = was.journal.acknowledged in
    let written = c.append_group-written in
    let j = written.new.self in
    let keeps =
    keeps_group d.seen d.may_leave d.spare_with written.result start (gathers.kept ++ was.group.records) was.journal.end n (length was.group.records) j
    (written.ensures.kept start gathers.kept n gathers.keeps) (written.ensures.not_added start gathers.kept n gathers.keeps)
    written.ensures.acknowledged written.ensures.stopped in
    subst (λ (s : Gathering _ _). (image : List ℕ) → d.may_leave j.disk image → TellsOn j.layout (row_of (e.store s.engine).rows) (e.records s.engine) j.acknowledged image) c.self.view_is
    (keeps_same d.seen d.may_leave (e.store was.engine) (e.store was.engine) (gathers.kept ++ was.group.records) (e.records was.engine) j.acknowledged j.acknowledged j refl gathers.split refl
    keeps).each
