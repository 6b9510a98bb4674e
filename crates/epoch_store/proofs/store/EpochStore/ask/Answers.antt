use Rattle.std.proofs.Common.{◌≡◌, ◌-◌, List, ℕ, None, Result, IsOk, true≢false, refl, sym, subst, arith, ◌∙◌}
use Rattle.teb_rules.specs.names.Rows.{row_of}
use Rattle.crash_disk.specs.Disk.{LeavesOnly}
use Rattle.epoch_journal.specs.Layout.{half_size}
use Rattle.epoch_journal.specs.Refusals.{IsReliable}
use Rattle.epoch_journal.specs.Telling.{TellsOn}
use Rattle.epoch_journal.proofs.Sizes.{small_half}
use Rattle.epoch_store.specs.Stored.{Stored}
use Rattle.epoch_store.proofs.Answering.{keeps_same, still, still_full}
use Rattle.epoch_store.proofs.store.EpochStore.ask.Goals as goal

pub returns-then-is_stopped-clause-any_moment : goal.returns-then-is_stopped-clause-any_moment
returns-then-is_stopped-clause-any_moment g c =
    let d = g.D.Disk in
    let e = g.E.Recorder in
    let was = c.self.inside in
    subst (λ (s : Stored _ _). LeavesOnly d.moment d.left_since s.journal.disk s.journal.disk (TellsOn s.journal.layout (row_of (e.store s.engine).rows) (e.records s.engine) s.journal.acknowledged))
    c.self.view_is
    (still d.seen d.may_leave d.moment d.left_since (row_of (e.store was.engine).rows) (e.records was.engine) was.journal.acknowledged was.journal (g.met.D.Disk.only_now was.journal.disk)
    c.self.invariant)

pub returns-in-Err-clause-any_moment : goal.returns-in-Err-clause-any_moment
returns-in-Err-clause-any_moment g c =
    let d = g.D.Disk in
    let e = g.E.Recorder in
    let was = c.self.inside in
    let new = c.prepared-prepared.new.engine in
    let n = was.journal.acknowledged in
    subst (λ (s : Stored _ _). LeavesOnly d.moment d.left_since s.journal.disk was.journal.disk (TellsOn s.journal.layout (row_of (e.store new).rows) (e.records new) s.journal.acknowledged))
    c.self.view_is
    (still d.seen d.may_leave d.moment d.left_since (row_of (e.store new).rows) (e.records new) n was.journal (g.met.D.Disk.only_now was.journal.disk)
    (keeps_same d.seen d.may_leave (e.store was.engine) (e.store new) (e.records was.engine) (e.records new) n n was.journal c.prepared-prepared.ensures.store c.prepared-prepared.ensures.records refl
    c.self.invariant))

pub returns-then-is_stopped-clause-images : goal.returns-then-is_stopped-clause-images
returns-then-is_stopped-clause-images g c =
    let d = g.D.Disk in
    let e = g.E.Recorder in
    subst (λ (s : Stored _ _). (image : List ℕ) → d.may_leave s.journal.disk image → TellsOn s.journal.layout (row_of (e.store s.engine).rows) (e.records s.engine) s.journal.acknowledged image)
    c.self.view_is
    c.self.invariant.each

pub returns-in-Err-clause-images : goal.returns-in-Err-clause-images
returns-in-Err-clause-images g c =
    let d = g.D.Disk in
    let e = g.E.Recorder in
    let was = c.self.inside in
    let new = c.prepared-prepared.new.engine in
    let n = was.journal.acknowledged in
    (keeps_same d.seen d.may_leave (e.store was.engine) (e.store new) (e.records was.engine) (e.records new) n n was.journal c.prepared-prepared.ensures.store c.prepared-prepared.ensures.records refl
    c.self.invariant).each

pub returns-in-Err-clause-full : goal.returns-in-Err-clause-full
returns-in-Err-clause-full g c is =
    let e = g.E.Recorder in
    subst (λ (s : Stored _ _). e.lacks s.engine (half_size s.journal.layout.capacity - s.journal.end) c.args.session c.args.request) c.self.view_is
    (c.in-Err.ensures.full (still_full c.in-Err.error is))

pub returns-clause-room : goal.returns-clause-room
returns-clause-room g c lacks =
    let e = g.E.Recorder in
    absurd (c.in-Ok.ensures.room (subst (λ (s : Stored _ _). e.lacks s.engine (half_size s.journal.layout.capacity - s.journal.end) c.args.session c.args.request) (sym c.self.view_is) lacks))

pub returns-clause-sure : goal.returns-clause-sure
returns-clause-sure g c reliable is =
    let d = g.D.Disk in
    let before = subst (λ (s : Stored _ _). IsReliable d.tells_failures d.tally d.refusals s.journal.disk) (sym c.self.view_is) reliable in
    true≢false (sym (subst (λ (r : Result _ _). IsOk r) is (c.answered.ensures.sure before)))
