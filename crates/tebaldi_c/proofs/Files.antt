-- What a crash leaves of a file after each step.
use Rattle.std.proofs.Common.{◌≡◌, ◌-◌, ◌+◌, ◌^◌, ◌<◌, ◌≤◌, ℕ, List, [], ◌∷◌, true, false, nat_eq, min, length, refl, sym, ◌∙◌, ap, subst, arith, rules}
use Rattle.teb_rules.specs.declared.history.Event.{Event}
use Rattle.teb_rules.specs.declared.history.Event.TheVariants as event
use Rattle.crash_disk.specs.Disk.{LeavesOnly}
use Rattle.crash_disk.specs.Calls.{Tally, memory_tally}
use Rattle.crash_disk.specs.Log.{LeftSince, MayLeave, byte_count}
use Rattle.crash_disk.specs.LogLaws.{only_now}
use Rattle.crash_disk.specs.declared.memory.MemDisk.{MemDisk}
use Rattle.commit_laws.specs.Commits.{commit_count}
use Rattle.epoch_journal.specs.Refusals.{IsReliable}
use Rattle.epoch_journal.specs.State.{JournalState}
use Rattle.record_journal.specs.Format.{Record}
use Rattle.engine_core.specs.EngineModel.{EngineModel}
use Rattle.engine_store.specs.Telling.{TellsCommits}
use Rattle.tebaldi_c.specs.Shelves.{DoesNotFail, FileState, KeepsFile, calls, next_place}

-- the clock of a disk in memory, and the images since a moment
abbrev pub clock : MemDisk → ℕ
clock m = length m.log.steps

abbrev pub images : MemDisk → ℕ → List ℕ → Type 0
images m t c = LeftSince m.log.steps t c

-- if no call waits, it is enough that whatever a crash may leave now tells the acknowledged commits
pub none_waits : (e : EngineModel) (f : FileState) → f.waiting ≡ 0 → f.opened ≡ true → f.kept ≡ f.journal.acknowledged
    → ((image : List ℕ) → MayLeave (calls f) image → TellsCommits f.journal.layout e.store e.events f.journal.acknowledged image)
    → (f.journal.stopped ≡ false → f.journal.acknowledged + length f.gathered ≡ commit_count e.events) → DoesNotFail f.journal.disk → KeepsFile e f
none_waits e f none opened kept leaves all disk = record {
  few = omega (arith, none);
  each = λ _ image left.
      let at : next_place f ≡ length (calls f) = omega (arith, none) in
      subst (λ (n : ℕ). TellsCommits f.journal.layout e.store e.events n image) (sym kept)
      (leaves image (only_now (calls f) image (subst (λ (t : ℕ). LeftSince (calls f) t image) at left)));
  settled = λ _. (opened, kept);
  all = all;
  disk = disk;
}

-- if the calls since a moment wait, it is enough that whatever a crash left from that moment on tells the kept commits
pub moved : (e : EngineModel) (f : FileState) (old : MemDisk) → f.waiting ≡ length (calls f) - length old.log.steps
    → LeavesOnly clock images old f.journal.disk (TellsCommits f.journal.layout e.store e.events f.kept)
    → (f.waiting ≡ 0 → (f.opened ≡ true) × (f.kept ≡ f.journal.acknowledged))
    → (f.journal.stopped ≡ false → f.journal.acknowledged + length f.gathered ≡ commit_count e.events) → DoesNotFail f.journal.disk → KeepsFile e f
moved e f old waiting leaves settled all disk = record {
  few = omega (arith, waiting);
  each = λ _ image left.
      let at : next_place f ≡ length old.log.steps = omega (arith, waiting, leaves.later) in
      leaves.each image (subst (λ (t : ℕ). LeftSince (calls f) t image) at left);
  settled = settled;
  all = all;
  disk = disk;
}

pub no_commits : commit_count [] ≡ 0
unfolding commit_count
no_commits = refl

-- a store that was just opened: once no call waits, its images are those of the store
pub begins : (e : EngineModel) (f : FileState) → f.gathered ≡ [] → f.waiting ≤ length (calls f) → (f.opened ≡ true → f.waiting ≡ 0) → (f.waiting ≡ 0 → f.opened ≡ true) → f.kept ≡ 0
    → f.journal.acknowledged ≡ 0 → e.events ≡ [] → ((image : List ℕ) → MayLeave (calls f) image → TellsCommits f.journal.layout e.store e.events f.journal.acknowledged image)
    → DoesNotFail f.journal.disk → KeepsFile e f
begins e f alone few opened waits kept none empty leaves disk = record {
  few = few;
  each = λ is. (none_waits e f (opened is) is (kept ∙ sym none) leaves all disk).each is;
  settled = λ zero. (waits zero, kept ∙ sym none);
  all = all;
  disk = disk;
}
  where
    all : f.journal.stopped ≡ false → f.journal.acknowledged + length f.gathered ≡ commit_count e.events
    all _ = omega (arith, none, ap length alone, ap commit_count empty ∙ no_commits)

-- one call fewer waits
pub one_fewer : (e : EngineModel) (f g : FileState) → KeepsFile e f → g.journal ≡ f.journal → g.gathered ≡ f.gathered → g.opened ≡ f.opened → g.kept ≡ f.kept
    → g.waiting + 1 ≡ f.waiting → 0 < g.waiting → KeepsFile e g
one_fewer e f g k journal gathered opened kept fewer some = record {
  few = omega (arith, fewer, k.few, same);
  each = λ is image left.
      subst (λ (n : ℕ). TellsCommits g.journal.layout e.store e.events n image) (sym kept)
      (subst (λ (j : _). TellsCommits j.layout e.store e.events f.kept image) (sym journal)
      (k.each (sym opened ∙ is) image
      (let l = subst (λ (j : _). LeftSince j.disk.log.steps (next_place g) image) journal left in
      (l.0, omega (arith, l.1, fewer, k.few, same), l.2, l.3))));
  settled = λ none. absurd (omega (arith, none, some));
  all = subst (λ (x : JournalState MemDisk × List Record). x.0.stopped ≡ false → x.0.acknowledged + length x.1 ≡ commit_count e.events) (λ i. (sym journal i, sym gathered i)) k.all;
  disk = subst (λ (j : _). DoesNotFail j.disk) (sym journal) k.disk;
}
  where
    same : length (calls g) ≡ length (calls f)
    same = ap (λ (j : _). length j.disk.log.steps) journal

pub is_zero : (n : ℕ) → nat_eq n 0 ≡ true → n ≡ 0
is_zero n is = search rules

-- a number that fits 64 bits is not cut
pub fits : (n : ℕ) → n < 2 ^ 64 → min n (2 ^ 64 - 1) ≡ n
fits n few = search rules

-- no history has more commits than events
pub commits_are_events : (H : List Event) → commit_count H ≤ length H
unfolding commit_count
commits_are_events [] = omega arith
commits_are_events (event.Began s t i k ∷ H) = let few = commits_are_events H in omega (arith, few)
commits_are_events (event.Got t x w v ∷ H) = let few = commits_are_events H in omega (arith, few)
commits_are_events (event.Put t x v ∷ H) = let few = commits_are_events H in omega (arith, few)
commits_are_events (event.Ready t ∷ H) = let few = commits_are_events H in omega (arith, few)
commits_are_events (event.Done t ∷ H) = let few = commits_are_events H in omega (arith, few)
commits_are_events (event.Gone t c ∷ H) = let few = commits_are_events H in omega (arith, few)
commits_are_events (event.Told t ∷ H) = let few = commits_are_events H in omega (arith, few)

-- if no commit waits, those that are acknowledged are all
pub with_none : (n k : ℕ) (rs : List Record) → rs ≡ [] → n ≡ k → n + length rs ≡ k
with_none n k rs none same = omega (arith, ap length none, same)

-- A commit that is asked ahead changes nothing of what the file has: each image tells the longer history too.
pub goes_ahead : (e d : EngineModel) (f g : FileState) → KeepsFile e f → g.journal ≡ f.journal → g.waiting ≡ f.waiting → g.opened ≡ f.opened → g.kept ≡ f.kept
    → ((n : ℕ) (image : List ℕ) → TellsCommits f.journal.layout e.store e.events n image → TellsCommits f.journal.layout d.store d.events n image)
    → (g.journal.stopped ≡ false → g.journal.acknowledged + length g.gathered ≡ commit_count d.events) → KeepsFile d g
goes_ahead e d f g k journal waiting opened kept still all = record {
  few = omega (arith, waiting, k.few, same);
  each = λ is image left.
      subst (λ (j : JournalState MemDisk). TellsCommits j.layout d.store d.events g.kept image) (sym journal)
      (subst (λ (n : ℕ). TellsCommits f.journal.layout d.store d.events n image) (sym kept)
      (still f.kept image (k.each (sym opened ∙ is) image
      (subst (λ (x : JournalState MemDisk × ℕ). LeftSince x.0.disk.log.steps (length x.0.disk.log.steps - x.1) image) (λ i. (journal i, waiting i)) left))));
  settled = λ none. let s = k.settled (sym waiting ∙ none) in (opened ∙ s.0, kept ∙ s.1 ∙ ap (λ (j : JournalState MemDisk). j.acknowledged) (sym journal));
  all = all;
  disk = subst (λ (j : JournalState MemDisk). DoesNotFail j.disk) (sym journal) k.disk;
}
  where
    same : length (calls g) ≡ length (calls f)
    same = ap (λ (j : JournalState MemDisk). length j.disk.log.steps) journal

-- what a store on such a disk needs
abbrev no_failures : MemDisk → Type 0
no_failures m = Unit {0}

abbrev refusals : MemDisk → ℕ
refusals m = m.counter.refusals

abbrev tally : MemDisk → Tally
tally m = memory_tally m.counter.made (byte_count m.log.steps) m.counter.stop m.log.room

pub reliable : (disk : MemDisk) → DoesNotFail disk → IsReliable no_failures tally refusals disk
reliable disk is = record { tells = λ d. tt; no_stop = is.no_stop; counts = omega (arith, is.granted) }
