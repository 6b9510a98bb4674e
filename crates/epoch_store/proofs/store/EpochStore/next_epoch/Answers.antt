use Rattle.std.proofs.Common.{[], Err, refl, sym, ap, subst, ◌∙◌}
use Rattle.teb_rules.specs.names.Rows.{row_of}
use Rattle.crash_disk.specs.Disk.{LeavesOnly}
use Rattle.record_journal.specs.Journal.{after_records}
use Rattle.epoch_journal.specs.Refusals.{IsReliable}
use Rattle.epoch_journal.specs.Telling.{TellsOn}
use Rattle.epoch_store.specs.Stored.{Stored}
use Rattle.epoch_store.proofs.Answering.{keeps_same}
use Rattle.epoch_store.proofs.store.EpochStore.next_epoch.Goals as goal

pub invariant_of-self-in-Err : goal.invariant_of-self-in-Err
invariant_of-self-in-Err g c =
    let d = g.D.Disk in
    let e = g.E.Recorder in
    let was = c.self.inside in
    let X = e.store was.engine in
    let rs = e.records was.engine in
    let n = was.journal.acknowledged in
    keeps_same d.seen d.may_leave X X rs rs n c.begin_with.new.journal.acknowledged c.begin_with.new.journal refl refl c.in-Err.ensures.place
    (c.begin_with.ensures.kept (row_of X.rows) rs n c.self.invariant
    (λ x. c.requires.rows x ∙ sym (ap (λ (s : Stored _ _). after_records (e.records s.engine) (row_of (e.store s.engine).rows) x) c.self.view_is)))

pub invariant_of-self : goal.invariant_of-self
invariant_of-self g c =
    let d = g.D.Disk in
    let e = g.E.Recorder in
    let was = c.self.inside in
    keeps_same d.seen d.may_leave (e.store c.args.next) (e.store c.replace.new.dest) [] (e.records c.replace.new.dest) 0 c.begin_with.new.journal.acknowledged c.begin_with.new.journal
    (ap e.store c.replace.ensures.after) (ap e.records c.replace.ensures.after ∙ c.requires.none) c.in-Ok.ensures.ok.1
    (c.in-Ok.ensures.begins (row_of (e.store was.engine).rows) (e.records was.engine) was.journal.acknowledged c.self.invariant)

pub returns-in-Ok-clause-any_moment : goal.returns-in-Ok-clause-any_moment
returns-in-Ok-clause-any_moment g c =
    let d = g.D.Disk in
    let e = g.E.Recorder in
    let was = c.self.inside in
    subst (λ (s : Stored _ _). LeavesOnly d.moment d.left_since s.journal.disk c.begin_with.new.journal.disk
    (TellsOn s.journal.layout (row_of (e.store s.engine).rows) (e.records s.engine) s.journal.acknowledged)) c.self.view_is
    (c.begin_with.ensures.any_moment (row_of (e.store was.engine).rows) (e.records was.engine) was.journal.acknowledged c.self.invariant
    (λ x. c.requires.rows x ∙ sym (ap (λ (s : Stored _ _). after_records (e.records s.engine) (row_of (e.store s.engine).rows) x) c.self.view_is)))

pub returns-in-Err-clause-any_moment : goal.returns-in-Err-clause-any_moment
returns-in-Err-clause-any_moment g c =
    let d = g.D.Disk in
    let e = g.E.Recorder in
    let was = c.self.inside in
    subst (λ (s : Stored _ _). LeavesOnly d.moment d.left_since s.journal.disk c.begin_with.new.journal.disk
    (TellsOn s.journal.layout (row_of (e.store s.engine).rows) (e.records s.engine) s.journal.acknowledged)) c.self.view_is
    (c.begin_with.ensures.any_moment (row_of (e.store was.engine).rows) (e.records was.engine) was.journal.acknowledged c.self.invariant
    (λ x. c.requires.rows x ∙ sym (ap (λ (s : Stored _ _). after_records (e.records s.engine) (row_of (e.store s.engine).rows) x) c.self.view_is)))

pub returns-in-Err-clause-images : goal.returns-in-Err-clause-images
returns-in-Err-clause-images g c =
    let d = g.D.Disk in
    let e = g.E.Recorder in
    let was = c.self.inside in
    let X = e.store was.engine in
    let rs = e.records was.engine in
    let n = was.journal.acknowledged in
    (keeps_same d.seen d.may_leave X X rs rs n c.begin_with.new.journal.acknowledged c.begin_with.new.journal refl refl c.in-Err.ensures.place
    (c.begin_with.ensures.kept (row_of X.rows) rs n c.self.invariant
    (λ x. c.requires.rows x ∙ sym (ap (λ (s : Stored _ _). after_records (e.records s.engine) (row_of (e.store s.engine).rows) x) c.self.view_is)))).each

pub returns-in-Ok-clause-images : goal.returns-in-Ok-clause-images
returns-in-Ok-clause-images g c =
    let d = g.D.Disk in
    let e = g.E.Recorder in
    let was = c.self.inside in
    (keeps_same d.seen d.may_leave (e.store c.args.next) (e.store c.replace.new.dest) [] (e.records c.replace.new.dest) 0 c.begin_with.new.journal.acknowledged c.begin_with.new.journal
    (ap e.store c.replace.ensures.after) (ap e.records c.replace.ensures.after ∙ c.requires.none) c.in-Ok.ensures.ok.1
    (c.in-Ok.ensures.begins (row_of (e.store was.engine).rows) (e.records was.engine) was.journal.acknowledged c.self.invariant)).each

pub returns-in-Err-clause-sure : goal.returns-in-Err-clause-sure
returns-in-Err-clause-sure g c reliable is =
    let d = g.D.Disk in
    c.in-Err.ensures.sure (subst (λ (s : Stored _ _). IsReliable d.tells_failures d.tally d.refusals s.journal.disk) (sym c.self.view_is) reliable) (ap Err is)
