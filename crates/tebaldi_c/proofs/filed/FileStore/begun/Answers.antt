use Rattle.std.proofs.Common.{ℕ, false, nat_eq, refl, sym, ◌∙◌, ap, subst, arith}
use Rattle.commit_laws.specs.Commits.{commit_count}
use Rattle.crash_disk.specs.declared.memory.MemDisk.{MemDisk}
use Rattle.engine_core.specs.EngineModel.{EngineModel}
use Rattle.epoch_journal.specs.State.{JournalState}
use Rattle.tebaldi_c.specs.Shelves.{DoesNotFail}
use Rattle.tebaldi_c.proofs.Files.{clock, begins, is_zero, no_commits}
use Rattle.tebaldi_c.proofs.filed.FileStore.begun.Goals as goal

pub of-store-requires : goal.of-store-requires
of-store-requires c = record { all = λ _. c.requires.acknowledged ∙ sym (ap commit_count c.requires.events ∙ no_commits) }

pub invariant_of-result : goal.invariant_of-result
invariant_of-result c =
    let w = c.saturating_sub-waiting.result in
    let store = c.of-store.result in
    let same = c.of-store.ensures in
    let count = c.call_count.ensures ∙ ap clock c.disk-2.ensures.disk in
    begins store.engine
    (record { journal = store.journal; gathered = store.waiting; waiting = w; opened = nat_eq w 0; kept = 0; failed = false })
    same.2 (omega (arith, c.saturating_sub-waiting.ensures, count)) (is_zero w) (λ is. ap (λ (n : ℕ). nat_eq n 0) is) refl
    (ap (λ (j : JournalState MemDisk). j.acknowledged) same.1 ∙ c.requires.acknowledged) (ap (λ (e : EngineModel). e.events) same.0 ∙ c.requires.events) c.disk-2.ensures.images
    (subst (λ (j : JournalState MemDisk). DoesNotFail j.disk) (sym same.1) c.requires.disk)
