use Rattle.std.proofs.Common.{rules, ◌-◌, ◌<◌, ℕ, sym, ◌∙◌, ap, subst, arith}
use Rattle.crash_disk.specs.Calls.{Promise}
use Rattle.crash_disk.specs.Disk.{LeavesOnly}
use Rattle.epoch_journal.specs.Layout.{Layout}
use Rattle.engine_core.specs.EngineModel.{EngineModel}
use Rattle.engine_store.specs.Telling.{TellsCommits}
use Rattle.tebaldi_c.specs.Shelves.{Filed}
use Rattle.tebaldi_c.proofs.Files.{clock, images, none_waits, moved, with_none}
use Rattle.tebaldi_c.proofs.filed.FileStore.write.Goals as goal

pub invariant_of-self-else-self-eq0 : goal.invariant_of-self-else-self-eq0
invariant_of-self-else-self-eq0 c =
    let s = c.self.inside in
    let was = s.store in
    let new = c.write-written.new.self in
    let w = c.write-written.ensures in
    let zero = ap (λ (f : Filed). f.file.waiting) c.self.view_is ∙ c.requires.no_call in
    let settled = c.self.invariant.settled zero in
    let after = c.call_count.ensures ∙ ap clock c.disk-2.ensures.disk in
    let before = c.call_count-before.ensures ∙ ap clock c.disk.ensures.disk in
    moved new.engine
    (record { journal = new.journal; gathered = new.waiting; waiting = c.call_count.result - c.call_count-before.result; opened = s.opened; kept = s.kept; failed = s.failed })
    was.journal.disk (λ i. after i - before i)
    (subst (λ (x : Layout × ℕ × EngineModel). LeavesOnly clock images was.journal.disk new.journal.disk (TellsCommits x.0 x.2.store x.2.events x.1))
    (λ i. (sym w.layout i, sym settled.1 i, sym w.engine i)) w.any_moment)
    (λ none. absurd (c.if-self-eq0.false none))
    (λ runs. with_none _ _ new.waiting w.none (w.all runs))
    (record { no_stop = ap (λ (p : Promise). p.stop) w.promise ∙ c.self.invariant.disk.no_stop; granted = w.memory ∙ c.self.invariant.disk.granted })

pub invariant_of-self : goal.invariant_of-self
invariant_of-self c =
    let s = c.self.inside in
    let new = c.write-written.new.self in
    let w = c.write-written.ensures in
    let zero = ap (λ (f : Filed). f.file.waiting) c.self.view_is ∙ c.requires.no_call in
    let settled = c.self.invariant.settled zero in
    none_waits new.engine
    (record {
      journal = new.journal;
      gathered = new.waiting;
      waiting = c.call_count.result - c.call_count-before.result;
      opened = s.opened;
      kept = c.acknowledged-self-inside.result;
      failed = s.failed;
    })
    c.if-self-eq0.true settled.0 c.acknowledged-self-inside.ensures c.disk-2.ensures.images
    (λ runs. with_none _ _ new.waiting w.none (w.all runs))
    (record { no_stop = ap (λ (p : Promise). p.stop) w.promise ∙ c.self.invariant.disk.no_stop; granted = w.memory ∙ c.self.invariant.disk.granted })
