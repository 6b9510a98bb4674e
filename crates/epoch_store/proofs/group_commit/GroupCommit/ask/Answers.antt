use Rattle.std.proofs.Common.{rules, ◌≡◌, Some, refl, sym, subst}
use Rattle.teb_rules.specs.declared.names.Reply.TheVariants.{Committed}
use Rattle.teb_rules.specs.names.Rows.{row_of}
use Rattle.crash_disk.specs.Disk.{LeavesOnly}
use Rattle.record_journal.specs.Journal.{IsBody}
use Rattle.epoch_journal.specs.Telling.{TellsOn}
use Rattle.epoch_store.specs.Gathering.{Gathering}
use Rattle.epoch_store.proofs.Gathered.{each_tells, gathers_more, gathers_same, waits_still}
use Rattle.epoch_store.proofs.group_commit.GroupCommit.ask.Goals as goal

pub returns-in-Err-clause-any_moment : goal.returns-in-Err-clause-any_moment
returns-in-Err-clause-any_moment g c =
    let d = g.D.Disk in
    let e = g.E.Recorder in
    let was = c.self.inside in
    let new = c.gathered.new.engine in
    let mid =
    gathers_same d.seen d.may_leave d.spare_with (e.store was.engine) (e.store new) (e.records was.engine) (e.records new) was.group.records c.gathered.new.group.records was.memory was.journal
    c.gathered.ensures.store c.gathered.ensures.records c.gathered.ensures.same_group c.self.invariant in
    subst (λ (s : Gathering _ _). LeavesOnly d.moment d.left_since s.journal.disk was.journal.disk (TellsOn s.journal.layout (row_of (e.store new).rows) (e.records new) s.journal.acknowledged))
    c.self.view_is
    (waits_still d.seen d.may_leave d.spare_with d.moment d.left_since (row_of (e.store new).rows) (e.records new) c.gathered.new.group.records was.memory was.journal
    (g.met.D.Disk.only_now was.journal.disk) mid)

pub returns-in-Err-clause-images : goal.returns-in-Err-clause-images
returns-in-Err-clause-images g c =
    let d = g.D.Disk in
    let e = g.E.Recorder in
    let was = c.self.inside in
    let new = c.gathered.new.engine in
    let mid =
    gathers_same d.seen d.may_leave d.spare_with (e.store was.engine) (e.store new) (e.records was.engine) (e.records new) was.group.records c.gathered.new.group.records was.memory was.journal
    c.gathered.ensures.store c.gathered.ensures.records c.gathered.ensures.same_group c.self.invariant in
    each_tells d.seen d.may_leave d.spare_with (row_of (e.store new).rows) (e.records new) c.gathered.new.group.records was.memory was.journal mid

pub returns-then-ne-clause-any_moment : goal.returns-then-ne-clause-any_moment
returns-then-ne-clause-any_moment g c =
    let d = g.D.Disk in
    let e = g.E.Recorder in
    let was = c.self.inside in
    let new = c.gathered.new.engine in
    let mid =
    gathers_same d.seen d.may_leave d.spare_with (e.store was.engine) (e.store new) (e.records was.engine) (e.records new) was.group.records c.gathered.new.group.records was.memory was.journal
    c.gathered.ensures.store c.gathered.ensures.records c.gathered.ensures.same_group c.self.invariant in
    let after = c.answer-reply.new.self in
    let other : (c.answer-reply.result ≡ Committed → ⊥) = search rules in
    let gathers =
    gathers_same d.seen d.may_leave d.spare_with (e.store new) (e.store after) (e.records new) (e.records after) c.gathered.new.group.records c.gathered.new.group.records was.memory was.journal
    c.answer-reply.ensures.store (c.answer-reply.ensures.others other) refl mid in
    subst (λ (s : Gathering _ _). LeavesOnly d.moment d.left_since s.journal.disk was.journal.disk (TellsOn s.journal.layout (row_of (e.store after).rows) (e.records after) s.journal.acknowledged))
    c.self.view_is
    (waits_still d.seen d.may_leave d.spare_with d.moment d.left_since (row_of (e.store after).rows) (e.records after) c.gathered.new.group.records was.memory was.journal
    (g.met.D.Disk.only_now was.journal.disk) gathers)

pub returns-then-ne-clause-images : goal.returns-then-ne-clause-images
returns-then-ne-clause-images g c =
    let d = g.D.Disk in
    let e = g.E.Recorder in
    let was = c.self.inside in
    let new = c.gathered.new.engine in
    let mid =
    gathers_same d.seen d.may_leave d.spare_with (e.store was.engine) (e.store new) (e.records was.engine) (e.records new) was.group.records c.gathered.new.group.records was.memory was.journal
    c.gathered.ensures.store c.gathered.ensures.records c.gathered.ensures.same_group c.self.invariant in
    let after = c.answer-reply.new.self in
    let other : (c.answer-reply.result ≡ Committed → ⊥) = search rules in
    let gathers =
    gathers_same d.seen d.may_leave d.spare_with (e.store new) (e.store after) (e.records new) (e.records after) c.gathered.new.group.records c.gathered.new.group.records was.memory was.journal
    c.answer-reply.ensures.store (c.answer-reply.ensures.others other) refl mid in
    each_tells d.seen d.may_leave d.spare_with (row_of (e.store after).rows) (e.records after) c.gathered.new.group.records was.memory was.journal gathers

pub invariant_of-self-2 : goal.invariant_of-self-2
invariant_of-self-2 g c =
    let d = g.D.Disk in
    let e = g.E.Recorder in
    let was = c.self.inside in
    let new = c.gathered.new.engine in
    let mid =
    gathers_same d.seen d.may_leave d.spare_with (e.store was.engine) (e.store new) (e.records was.engine) (e.records new) was.group.records c.gathered.new.group.records was.memory was.journal
    c.gathered.ensures.store c.gathered.ensures.records c.gathered.ensures.same_group c.self.invariant in
    let after = c.answer-reply.new.self in
    let body = c.in-Ok.gathered.0.items in
    let is : c.answer-reply.result ≡ Committed = search rules in
    let record_of = c.answer-reply.ensures.commits body is c.in-Ok.ensures.prepared in
    let pushed = c.push.ensures.records record_of.0 (subst (IsBody record_of.0) (sym c.deref.ensures.value) record_of.1) in
    let gathers =
    gathers_more d.seen d.may_leave d.spare_with (e.store new) (e.store after) (e.records new) (e.records after) c.gathered.new.group.records c.push.new.self.records record_of.0 body was.memory
    c.in-Ok.gathered.1 was.journal
    c.answer-reply.ensures.store record_of.2 pushed record_of.1 c.in-Ok.ensures.fits c.in-Ok.ensures.memory mid in
    gathers

pub returns-clause-any_moment : goal.returns-clause-any_moment
returns-clause-any_moment g c =
    let d = g.D.Disk in
    let e = g.E.Recorder in
    let was = c.self.inside in
    let new = c.gathered.new.engine in
    let mid =
    gathers_same d.seen d.may_leave d.spare_with (e.store was.engine) (e.store new) (e.records was.engine) (e.records new) was.group.records c.gathered.new.group.records was.memory was.journal
    c.gathered.ensures.store c.gathered.ensures.records c.gathered.ensures.same_group c.self.invariant in
    let after = c.answer-reply.new.self in
    let body = c.in-Ok.gathered.0.items in
    let is : c.answer-reply.result ≡ Committed = search rules in
    let record_of = c.answer-reply.ensures.commits body is c.in-Ok.ensures.prepared in
    let pushed = c.push.ensures.records record_of.0 (subst (IsBody record_of.0) (sym c.deref.ensures.value) record_of.1) in
    let gathers =
    gathers_more d.seen d.may_leave d.spare_with (e.store new) (e.store after) (e.records new) (e.records after) c.gathered.new.group.records c.push.new.self.records record_of.0 body was.memory
    c.in-Ok.gathered.1 was.journal
    c.answer-reply.ensures.store record_of.2 pushed record_of.1 c.in-Ok.ensures.fits c.in-Ok.ensures.memory mid in
    subst (λ (s : Gathering _ _). LeavesOnly d.moment d.left_since s.journal.disk was.journal.disk (TellsOn s.journal.layout (row_of (e.store after).rows) (e.records after) s.journal.acknowledged))
    c.self.view_is
    (waits_still d.seen d.may_leave d.spare_with d.moment d.left_since (row_of (e.store after).rows) (e.records after) c.push.new.self.records (Some c.in-Ok.gathered.1) was.journal
    (g.met.D.Disk.only_now was.journal.disk) gathers)

pub returns-clause-images : goal.returns-clause-images
returns-clause-images g c =
    let d = g.D.Disk in
    let e = g.E.Recorder in
    let was = c.self.inside in
    let new = c.gathered.new.engine in
    let mid =
    gathers_same d.seen d.may_leave d.spare_with (e.store was.engine) (e.store new) (e.records was.engine) (e.records new) was.group.records c.gathered.new.group.records was.memory was.journal
    c.gathered.ensures.store c.gathered.ensures.records c.gathered.ensures.same_group c.self.invariant in
    let after = c.answer-reply.new.self in
    let body = c.in-Ok.gathered.0.items in
    let is : c.answer-reply.result ≡ Committed = search rules in
    let record_of = c.answer-reply.ensures.commits body is c.in-Ok.ensures.prepared in
    let pushed = c.push.ensures.records record_of.0 (subst (IsBody record_of.0) (sym c.deref.ensures.value) record_of.1) in
    let gathers =
    gathers_more d.seen d.may_leave d.spare_with (e.store new) (e.store after) (e.records new) (e.records after) c.gathered.new.group.records c.push.new.self.records record_of.0 body was.memory
    c.in-Ok.gathered.1 was.journal
    c.answer-reply.ensures.store record_of.2 pushed record_of.1 c.in-Ok.ensures.fits c.in-Ok.ensures.memory mid in
    each_tells d.seen d.may_leave d.spare_with (row_of (e.store after).rows) (e.records after) c.push.new.self.records (Some c.in-Ok.gathered.1) was.journal gathers
