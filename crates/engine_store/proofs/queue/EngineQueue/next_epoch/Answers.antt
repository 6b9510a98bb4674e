use Rattle.std.proofs.Common.{◌++◌, ◌∷◌, [], refl, subst, sym}
use Rattle.crash_disk.specs.Disk.{LeavesOnly}
use Rattle.engine_core.specs.EngineModel.{EngineModel}
use Rattle.tree_switch.specs.Courses.{IsCourse}
use Rattle.tree_switch.proofs.Starting.{moved_on}
use Rattle.epoch_store.specs.Queue.{Queue}
use Rattle.engine_store.specs.Halves.{KeepsCommits}
use Rattle.engine_store.specs.Lives.{IsLife, epoch_of}
use Rattle.engine_store.specs.Next.{IsCause}
use Rattle.engine_store.specs.Telling.{TellsCommits}
use Rattle.engine_store.proofs.LifeGoesOn.{followed}
use Rattle.engine_store.proofs.queue.EngineQueue.next_epoch.Goals as goal

pub returns-in-Ok-clause-kept : goal.returns-in-Ok-clause-kept
returns-in-Ok-clause-kept g c n was =
    let d = g.D.Disk in
    c.renewed-journal.ensures.kept c.begin_in.new.queue.engine.engine.store [] 0
    (c.in-Ok.ensures.kept n (subst (λ (s : Queue EngineModel). KeepsCommits d.seen d.may_leave s.engine.store s.engine.events n c.args.journal) (sym c.self.view_is) was))

pub returns-in-Ok-clause-any_moment : goal.returns-in-Ok-clause-any_moment
returns-in-Ok-clause-any_moment g c n was =
    let d = g.D.Disk in
    let j = c.args.journal in
    let within = subst (λ (s : Queue EngineModel). KeepsCommits d.seen d.may_leave s.engine.store s.engine.events n j) (sym c.self.view_is) was in
    record {
      last = c.begin_in.new.journal.disk;
      leaves = subst (λ (s : Queue EngineModel). LeavesOnly d.moment d.left_since j.disk c.begin_in.new.journal.disk (TellsCommits j.layout s.engine.store s.engine.events n)) c.self.view_is
          (c.begin_in.ensures.any_moment n within);
      same_bytes = c.renewed-journal.ensures.seen;
      same_faults = c.renewed-journal.ensures.faults;
    }

pub returns-in-Ok-clause-course : goal.returns-in-Ok-clause-course
returns-in-Ok-clause-course g c past =
    let e = c.self.inside.queue.engine.engine in
    let f = c.begin_in.new.queue.engine.engine in
    subst (λ (s : Queue EngineModel). IsCourse (record { past = past; present = s.engine }) → IsCourse (record { past = past ++ s.engine ∷ []; present = f })) c.self.view_is
    (moved_on c.args.setup past (past ++ e ∷ []) e f c.requires.setup c.in-Ok.ensures.refused.same c.in-Ok.ensures.begun.1 refl)

pub returns-in-Ok-clause-life : goal.returns-in-Ok-clause-life
returns-in-Ok-clause-life g c T past =
    let e = c.self.inside.queue.engine.engine in
    let f = c.begin_in.new.queue.engine.engine in
    subst (λ (s : Queue EngineModel). IsLife T (record { past = past; present = s.engine }) → IsLife T (record { past = past ++ epoch_of s.engine ∷ []; present = f })) c.self.view_is
    (followed T past e f c.in-Ok.ensures.engine c.in-Ok.ensures.begun.1.rows.each)

pub returns-in-Err-clause-refused : goal.returns-in-Err-clause-refused
returns-in-Err-clause-refused g c = subst (λ (s : Queue EngineModel). IsCause c.args.journal.layout s.engine c.args.setup.names.tables c.in-Err.why) c.self.view_is c.in-Err.ensures.refused

pub returns-in-Err-clause-not_begun : goal.returns-in-Err-clause-not_begun
returns-in-Err-clause-not_begun g c n was =
    let d = g.D.Disk in
    let within = subst (λ (s : Queue EngineModel). KeepsCommits d.seen d.may_leave s.engine.store s.engine.events n c.args.journal) (sym c.self.view_is) was in
    subst (λ (s : Queue EngineModel). KeepsCommits d.seen d.may_leave s.engine.store s.engine.events n c.begin_in.new.journal) c.self.view_is (c.in-Err.ensures.not_begun n within)

pub returns-in-Err-clause-any_moment : goal.returns-in-Err-clause-any_moment
returns-in-Err-clause-any_moment g c n was =
    let d = g.D.Disk in
    let j = c.args.journal in
    let within = subst (λ (s : Queue EngineModel). KeepsCommits d.seen d.may_leave s.engine.store s.engine.events n j) (sym c.self.view_is) was in
    record {
      last = c.begin_in.new.journal.disk;
      leaves = subst (λ (s : Queue EngineModel). LeavesOnly d.moment d.left_since j.disk c.begin_in.new.journal.disk (TellsCommits j.layout s.engine.store s.engine.events n)) c.self.view_is
          (c.begin_in.ensures.any_moment n within);
      same_bytes = refl;
      same_faults = refl;
    }
