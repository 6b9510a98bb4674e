use Rattle.std.proofs.Common.{rules, ◌-◌, ◌<◌, ℕ, Err, sym, ◌∙◌, ap, subst, arith}
use Rattle.crash_disk.specs.Calls.{Promise}
use Rattle.crash_disk.specs.Disk.{LeavesOnly}
use Rattle.epoch_journal.specs.Layout.{Layout}
use Rattle.engine_store.specs.Telling.{TellsCommits}
use Rattle.tebaldi_c.specs.Shelves.{Filed}
use Rattle.tebaldi_c.proofs.Files.{clock, images, none_waits, moved, reliable, with_none}
use Rattle.tebaldi_c.proofs.filed.FileStore.ask.Goals as goal

pub invariant_of-self-then-waiting-gt0 : goal.invariant_of-self-then-waiting-gt0
invariant_of-self-then-waiting-gt0 c =
    let s = c.self.inside in
    let was = s.store in
    let new = c.ask.new.self in
    let some : 0 < c.call_count.result - c.call_count-before.result = search rules in
    let zero = ap (λ (f : Filed). f.file.waiting) c.self.view_is ∙ c.requires.idle.no_call in
    let settled = c.self.invariant.settled zero in
    let after = c.call_count.ensures ∙ ap clock c.disk-2.ensures.disk in
    let before = c.call_count-before.ensures ∙ ap clock c.disk.ensures.disk in
    moved new.engine
    (record { journal = new.journal; gathered = new.waiting; waiting = c.call_count.result - c.call_count-before.result; opened = s.opened; kept = s.kept; failed = s.failed })
    was.journal.disk (λ i. after i - before i)
    (subst (λ (x : Layout × ℕ). LeavesOnly clock images was.journal.disk new.journal.disk (TellsCommits x.0 new.engine.store new.engine.events x.1))
    (λ i. (sym c.ask.ensures.layout i, sym settled.1 i)) c.ask.ensures.any_moment)
    (λ none. absurd (omega (arith, none, some)))
    (λ runs. with_none _ _ new.waiting c.ask.ensures.none (c.ask.ensures.all runs))
    (record { no_stop = ap (λ (p : Promise). p.stop) c.ask.ensures.promise ∙ c.self.invariant.disk.no_stop; granted = c.ask.ensures.memory ∙ c.self.invariant.disk.granted })

pub invariant_of-self-2 : goal.invariant_of-self-2
invariant_of-self-2 c =
    let s = c.self.inside in
    let new = c.ask.new.self in
    let zero = ap (λ (f : Filed). f.file.waiting) c.self.view_is ∙ c.requires.idle.no_call in
    none_waits new.engine
    (record { journal = new.journal; gathered = new.waiting; waiting = s.waiting; opened = s.opened; kept = c.acknowledged-self-inside.result; failed = s.failed })
    zero (c.self.invariant.settled zero).0 c.acknowledged-self-inside.ensures c.disk-2.ensures.images
    (λ runs. with_none _ _ new.waiting c.ask.ensures.none (c.ask.ensures.all runs))
    (record { no_stop = ap (λ (p : Promise). p.stop) c.ask.ensures.promise ∙ c.self.invariant.disk.no_stop; granted = c.ask.ensures.memory ∙ c.self.invariant.disk.granted })

pub unreachable-requires : goal.unreachable-requires
unreachable-requires c = c.in-Err-Unsure.ensures.sure (reliable c.self.inside.store.journal.disk c.self.invariant.disk) (ap Err c.in-Err-Unsure.field-0-is)
