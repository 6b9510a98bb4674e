use Rattle.std.proofs.Common.{◌≡◌, ◌-◌, List, ℕ, Err, sym, ◌∙◌, ap, subst}
use Rattle.crash_disk.specs.Calls.{Promise}
use Rattle.crash_disk.specs.Disk.{LeavesOnly}
use Rattle.crash_disk.specs.declared.memory.MemDisk.{MemDisk}
use Rattle.engine_core.specs.EngineModel.{EngineModel}
use Rattle.record_journal.specs.Format.{Record}
use Rattle.epoch_journal.specs.State.{JournalState}
use Rattle.engine_store.specs.Next.{IsCause}
use Rattle.engine_store.specs.Telling.{TellsCommits}
use Rattle.commit_laws.specs.Commits.{commit_count}
use Rattle.tebaldi_c.specs.Shelves.{Filed, KeepsFile}
use Rattle.tebaldi_c.proofs.Files.{clock, images, moved, no_commits, reliable, with_none}
use Rattle.tebaldi_c.proofs.filed.FileStore.next_epoch.Goals as goal

pub invariant_of-self : goal.invariant_of-self
invariant_of-self c =
    let s = c.self.inside in
    let was = s.store in
    let new = c.begin_epoch.new.self in
    let zero = ap (λ (f : Filed). f.file.waiting) c.self.view_is ∙ c.requires.idle.no_call in
    let settled = c.self.invariant.settled zero in
    let after = c.call_count.ensures ∙ ap clock c.disk-in-Ok.ensures.disk in
    let before = c.call_count-before.ensures ∙ ap clock c.disk.ensures.disk in
    let kept = c.acknowledged-kept.ensures ∙ c.in-Ok.ensures.running.0 in
    moved new.engine
    (record { journal = new.journal; gathered = new.waiting; waiting = c.call_count.result - c.call_count-before.result; opened = s.opened; kept = c.acknowledged-kept.result; failed = s.failed })
    was.journal.disk (λ i. after i - before i)
    (subst (λ (n : ℕ). LeavesOnly clock images was.journal.disk new.journal.disk (TellsCommits new.journal.layout new.engine.store new.engine.events n)) (sym kept)
    c.in-Ok.ensures.any_moment_next)
    (λ _. (settled.0, c.acknowledged-kept.ensures))
    (λ _. with_none _ _ new.waiting c.begin_epoch.ensures.none (c.in-Ok.ensures.running.0 ∙ sym (ap commit_count c.in-Ok.ensures.begun.events ∙ no_commits)))
    (record {
      no_stop = ap (λ (p : Promise). p.stop) c.begin_epoch.ensures.promise ∙ c.self.invariant.disk.no_stop;
      granted = c.begin_epoch.ensures.memory ∙ c.self.invariant.disk.granted;
    })

pub unreachable-requires : goal.unreachable-requires
unreachable-requires c = c.in-Err-DiskFault.ensures.sure (reliable c.self.inside.store.journal.disk c.self.invariant.disk) (ap Err c.in-Err-DiskFault.field-0-is)

pub invariant_of-self-in-Err : goal.invariant_of-self-in-Err
invariant_of-self-in-Err c =
    let s = c.self.inside in
    let same = c.in-Err.ensures.kept (λ is. c.in-Err.ensures.sure (reliable s.store.journal.disk c.self.invariant.disk) (ap Err is)) in
    let none = ap (λ (f : Filed). f.file.gathered) c.self.view_is ∙ c.requires.idle.no_commit in
    subst (λ (x : EngineModel × JournalState MemDisk × List Record). KeepsFile x.0 (record { journal = x.1; gathered = x.2; waiting = s.waiting; opened = s.opened; kept = s.kept; failed = s.failed }))
    (λ i. (sym same.0 i, sym same.1 i, (none ∙ sym c.begin_epoch.ensures.none) i)) c.self.invariant

pub returns-in-Err-clause-refused : goal.returns-in-Err-clause-refused
returns-in-Err-clause-refused c =
    subst (λ (f : Filed). IsCause f.file.journal.layout f.engine c.args.setup.names.tables c.in-Err.why) c.self.view_is c.in-Err.ensures.refused
