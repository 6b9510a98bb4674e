-- What a store tells whose halves are held together.
use Rattle.std.proofs.Common.{◌≡◌, ◌+◌, ℕ, true, false, List, [], ◌∷◌, ◌++◌, length, Result, Ok, Err, ◌⊎◌, inl, inr, refl, sym, ◌∙◌, ap, subst, arith, append_assoc, length-append}
use Rattle.std.specs.Prelude.{IfOk, IfErr, OnOk, OnErr, IsErrOf}
use Rattle.std.proofs.lemmas.List.{append-nil}
use Rattle.teb_rules.specs.declared.names.Reply.{Reply}
use Rattle.teb_rules.specs.declared.names.Reply.TheVariants.{Begun, Value, Values, Done, Prepared, Committed, Again, Aborted, Refused}
use Rattle.teb_rules.specs.names.Rows.{row_of}
use Rattle.teb_rules.specs.declared.history.Event.{Event}
use Rattle.teb_rules.specs.Setup.{Store}
use Rattle.store_setup.specs.declared.Setup.{Setup}
use Rattle.engine_core.specs.EngineModel.{EngineModel}
use Rattle.tree_switch.specs.Starts.{IsStarted}
use Rattle.crash_disk.specs.Disk.{LeavesOnly}
use Rattle.record_journal.specs.Format.{Record}
use Rattle.commit_laws.specs.Commits.{commit_count}
use Rattle.commit_laws.specs.Records.{records_of}
use Rattle.commit_laws.proofs.Prefixes.{length-records}
use Rattle.epoch_journal.specs.Kept.{Keeps}
use Rattle.epoch_journal.specs.Layout.{Layout, half_size}
use Rattle.epoch_journal.specs.State.{JournalState}
use Rattle.epoch_journal.specs.Telling.{TellsOn}
use Rattle.epoch_journal.proofs.Telling.{tells_more}
use Rattle.epoch_store.specs.Gathering.{size_of}
use Rattle.epoch_store.specs.Queue.{Queue}
use Rattle.epoch_store.specs.Stored.{Stored}
use Rattle.epoch_store.specs.declared.error.AskError.{AskError}
use Rattle.engine_store.specs.Halves.{AreCommitsSince, KeepsCommits}
use Rattle.engine_store.specs.Label.{label_of}
use Rattle.engine_store.specs.Telling.{TellsCommits}
use Rattle.engine_store.specs.declared.error.NextError.{NextError}
use Rattle.engine_store.specs.declared.error.NextError.TheVariants as causes
use Rattle.engine_store.proofs.Halves.{none_since}
use Rattle.grouped_store.specs.Grouped.{Grouped, IsGrouped}

-- a store with these halves
abbrev pub of_halves : {D : Type 0} → Queue EngineModel → JournalState D → Grouped D
of_halves queue journal = record { engine = queue.engine; journal = journal; waiting = queue.waiting; left = queue.left }

is_committed : (r : Reply) → (r ≡ Committed) ⊎ (r ≡ Committed → ⊥)
is_committed Committed = inl refl
is_committed (Begun t) = inr (λ is. absurd (cc is))
is_committed (Value v) = inr (λ is. absurd (cc is))
is_committed (Values v) = inr (λ is. absurd (cc is))
is_committed Done = inr (λ is. absurd (cc is))
is_committed Prepared = inr (λ is. absurd (cc is))
is_committed (Again u k) = inr (λ is. absurd (cc is))
is_committed (Aborted c) = inr (λ is. absurd (cc is))
is_committed (Refused c) = inr (λ is. absurd (cc is))

-- the commits that wait are those that waited, and perhaps one more
pub grown : (result : Result Reply AskError) (old new : Queue EngineModel) → IfOk result (λ reply. reply ≡ Committed → (r : Record) × (new.waiting ≡ old.waiting ++ r ∷ []))
    → IfOk result (λ reply. (reply ≡ Committed → ⊥) → new.waiting ≡ old.waiting) → OnErr result (new ≡ old) → (more : List Record) × (new.waiting ≡ old.waiting ++ more)
grown (Ok reply) old new waits others same = elim (is_committed reply) [
  | inl is ↦ (let w = waits is in (w.0 ∷ [], w.1))
  | inr not ↦ ([], others not ∙ sym (append-nil old.waiting))
]
grown (Err e) old new waits others same = ([], ap (λ (q : Queue EngineModel). q.waiting) same ∙ sym (append-nil old.waiting))

-- one more commit waits
pub one_more : (result : Result Reply AskError) (old new : List Record) → IfOk result (λ reply. reply ≡ Committed → (r : Record) × (new ≡ old ++ r ∷ []))
    → IfOk result (λ reply. reply ≡ Committed → length new ≡ length old + 1)
one_more (Ok reply) old new waits = λ is. (let w = waits is in omega (arith, ap length w.1, length-append old (w.0 ∷ [])))
one_more (Err e) old new waits = tt

-- what tells the first commits of a history tells those of a longer one
pub still_tells : (l : Layout) (old new : Queue EngineModel) (until : List Event) (more : List Record) (n : ℕ) (image : List ℕ) → new.engine.store ≡ old.engine.store
    → AreCommitsSince old.engine.store until old.engine.events old.waiting → AreCommitsSince new.engine.store until new.engine.events new.waiting → new.waiting ≡ old.waiting ++ more
    → TellsCommits l old.engine.store old.engine.events n image → TellsCommits l new.engine.store new.engine.events n image
still_tells l old new until more n image store before after wait tells =
    let X = old.engine.store in
    let Z = new.engine.store in
    let first = records_of X.setup until in
    let all : records_of Z.setup new.engine.events ≡ records_of X.setup old.engine.events ++ more =
    after
    ∙ ap (λ (Y : Store). records_of Y.setup until ++ new.waiting) store
    ∙ ap (λ (rs : List Record). first ++ rs) wait
    ∙ sym (append_assoc first old.waiting more)
    ∙ ap (λ (rs : List Record). rs ++ more) (sym before) in
    subst (λ (x : Store × List Record). TellsOn l (row_of x.0.rows) x.1 n image) (λ i. (sym store i, sym all i))
    (tells_more l (row_of X.rows) (records_of X.setup old.engine.events) more n image tells)

pub no_commits : (e : EngineModel) → e.events ≡ [] → commit_count e.events ≡ 0
unfolding commit_count
no_commits e none = ap commit_count none

-- after a begin of the next epoch, all commits are acknowledged unless the store is stopped
pub all_after : {D : Type 0} (setup : Setup) (result : Result EngineModel NextError) (old new : Stored EngineModel D)
    → (old.journal.stopped ≡ false → old.journal.acknowledged ≡ commit_count old.engine.events)
    → IfOk result (λ past. (past ≡ old.engine) × IsStarted setup old.engine new.engine) → IfOk result (λ _. (new.journal.acknowledged ≡ 0) × (new.journal.stopped ≡ false))
    → IfErr result (λ why. (why ≡ causes.DiskFault → ⊥) → new ≡ old) → (IsErrOf result causes.DiskFault → new.journal.stopped ≡ true)
    → new.journal.stopped ≡ false → new.journal.acknowledged ≡ commit_count new.engine.events
all_after setup (Ok past) old new all begun running kept fault runs = running.0 ∙ sym (no_commits new.engine begun.1.events)
all_after {D} setup (Err why) old new all begun running kept fault runs = go why kept fault
  where
    unbegun : new ≡ old → new.journal.acknowledged ≡ commit_count new.engine.events
    unbegun same = subst (λ (s : Stored EngineModel D). s.journal.stopped ≡ false → s.journal.acknowledged ≡ commit_count s.engine.events) (sym same) all runs

    go : (why : NextError) → ((why ≡ causes.DiskFault → ⊥) → new ≡ old) → (IsErrOf {T = EngineModel} (Err why) causes.DiskFault → new.journal.stopped ≡ true)
        → new.journal.acknowledged ≡ commit_count new.engine.events
    go causes.DiskFault kept fault = let stopped = fault refl in absurd (cc (stopped, runs))
    go causes.Stopped kept fault = unbegun (kept (λ is. absurd (cc is)))
    go (causes.Again t) kept fault = unbegun (kept (λ is. absurd (cc is)))
    go (causes.Untold s) kept fault = unbegun (kept (λ is. absurd (cc is)))
    go causes.OtherTables kept fault = unbegun (kept (λ is. absurd (cc is)))
    go causes.Full kept fault = unbegun (kept (λ is. absurd (cc is)))
    go causes.OutOfMemory kept fault = unbegun (kept (λ is. absurd (cc is)))

-- what is told of a store is told of its halves
module _ {D : Type 0} (may_leave : D → List ℕ → Type 0) where
  pub images_of : (e f : EngineModel) (j k : JournalState D) → f ≡ e → k ≡ j
      → ((image : List ℕ) → may_leave j.disk image → TellsCommits j.layout e.store e.events j.acknowledged image) → (image : List ℕ) → may_leave k.disk image
      → TellsCommits k.layout f.store f.events k.acknowledged image
  images_of e f j k engine journal images =
      subst (λ (x : EngineModel × JournalState D). (image : List ℕ) → may_leave x.1.disk image → TellsCommits x.1.layout x.0.store x.0.events x.1.acknowledged image)
      (λ i. (sym engine i, sym journal i)) images

module _ {D : Type 0} (moment : D → ℕ) (left_since : D → ℕ → List ℕ → Type 0) (e f : EngineModel) (i j k m : JournalState D) (engine : f ≡ e) (before : i ≡ j) (after : m ≡ k) where
  -- of the epoch that the old journal has
  pub moment_of_old : LeavesOnly moment left_since i.disk k.disk (TellsCommits i.layout e.store e.events i.acknowledged)
      → LeavesOnly moment left_since j.disk m.disk (TellsCommits j.layout f.store f.events j.acknowledged)
  moment_of_old leaves =
      subst (λ (x : EngineModel × JournalState D × JournalState D). LeavesOnly moment left_since x.1.disk x.2.disk (TellsCommits x.1.layout x.0.store x.0.events x.1.acknowledged))
      (λ t. (sym engine t, before t, sym after t)) leaves

  -- of the epoch that begins
  pub moment_of_new : LeavesOnly moment left_since i.disk k.disk (TellsCommits k.layout e.store e.events 0) → LeavesOnly moment left_since j.disk m.disk (TellsCommits m.layout f.store f.events 0)
  moment_of_new leaves =
      subst (λ (x : EngineModel × JournalState D × JournalState D). LeavesOnly moment left_since x.1.disk x.2.disk (TellsCommits x.2.layout x.0.store x.0.events 0))
      (λ t. (sym engine t, before t, sym after t)) leaves

module _ {D : Type 0} (seen : D → List ℕ) (may_leave : D → List ℕ → Type 0) where
  -- a journal keeps as many commits as it has acknowledged
  at_its_count : (X : Store) (H : List Event) (n : ℕ) (j : JournalState D) → KeepsCommits seen may_leave X H n j → KeepsCommits seen may_leave X H j.acknowledged j
  at_its_count X H n j keeps = record {
    keeps = subst (λ (m : ℕ). Keeps seen may_leave (row_of X.rows) (records_of X.setup H) m j) (sym keeps.acknowledged) keeps.keeps;
    acknowledged = refl;
  }

  -- the journal keeps all commits, and none waits
  pub none_waits : (s : Grouped D) (e : EngineModel) (j : JournalState D) → s.engine ≡ e → s.journal ≡ j → s.waiting ≡ [] → KeepsCommits seen may_leave e.store e.events j.acknowledged j
      → (j.stopped ≡ false → j.acknowledged ≡ commit_count e.events) → j.layout.label ≡ label_of e.names.tables
      → (j.stopped ≡ false → s.left + j.end ≡ half_size j.layout.capacity) → IsGrouped seen may_leave s
  none_waits s e j engine journal none keeps all label left = record {
    until = s.engine.events;
    keeps = subst (λ (x : EngineModel × JournalState D). KeepsCommits seen may_leave x.0.store x.0.events x.1.acknowledged x.1) (λ i. (sym engine i, sym journal i)) keeps;
    since = none_since s.engine.store s.engine.events s.waiting none;
    all = subst (λ (x : EngineModel × JournalState D). x.1.stopped ≡ false → x.1.acknowledged ≡ commit_count x.0.events) (λ i. (sym engine i, sym journal i)) all;
    label = subst (λ (x : EngineModel × JournalState D). x.1.layout.label ≡ label_of x.0.names.tables) (λ i. (sym engine i, sym journal i)) label;
    left = λ runs.
        let some = left (ap (λ (k : JournalState D). k.stopped) (sym journal) ∙ runs) in
        omega (arith, some, ap (λ (k : JournalState D). k.end) journal, ap (λ (k : JournalState D). half_size k.layout.capacity) journal, ap size_of none);
  }

  module _ (s : Grouped D) (is : IsGrouped seen may_leave s) where
    -- if no commit waits, the journal keeps all
    pub keeps_all : s.waiting ≡ [] → KeepsCommits seen may_leave s.engine.store s.engine.events s.journal.acknowledged s.journal
    keeps_all none =
        let first = records_of s.engine.store.setup is.until in
        let same : records_of s.engine.store.setup s.engine.events ≡ first = is.since ∙ ap (λ (rs : List Record). first ++ rs) none ∙ append-nil first in
        record {
          keeps = subst (λ (rs : List Record). Keeps seen may_leave (row_of s.engine.store.rows) rs s.journal.acknowledged s.journal) (sym same) is.keeps.keeps;
          acknowledged = is.keeps.acknowledged;
        }

    -- as many as it has acknowledged, unless it is stopped
    pub keeps_until : s.journal.stopped ≡ false → KeepsCommits seen may_leave s.engine.store is.until (commit_count is.until) s.journal
    keeps_until runs = subst (λ (n : ℕ). KeepsCommits seen may_leave s.engine.store is.until n s.journal) (is.all runs) is.keeps

    -- whatever a crash leaves tells the commits
    pub each_tells : (image : List ℕ) → may_leave s.journal.disk image → TellsCommits s.journal.layout s.engine.store s.engine.events s.journal.acknowledged image
    each_tells image left =
        let start = row_of s.engine.store.rows in
        let n = s.journal.acknowledged in
        subst (λ (rs : List Record). TellsOn s.journal.layout start rs n image) (sym is.since)
        (tells_more s.journal.layout start (records_of s.engine.store.setup is.until) s.waiting n image (is.keeps.keeps.each image left))

    -- the commits of the epoch are those that were acknowledged and those that wait
    pub counted : s.journal.stopped ≡ false → s.journal.acknowledged + length s.waiting ≡ commit_count s.engine.events
    counted runs =
        let setup = s.engine.store.setup in
        omega (arith, is.all runs, length-records setup s.engine.events, length-records setup is.until, ap length is.since, length-append (records_of setup is.until) s.waiting)

    pub acknowledged_if_none_waits : s.waiting ≡ [] → s.journal.stopped ≡ false → s.journal.acknowledged ≡ commit_count s.engine.events
    acknowledged_if_none_waits none runs = omega (arith, counted runs, ap length none)

    pub acknowledged_in_whole : (whole : Stored EngineModel D) → whole.engine ≡ s.engine → whole.journal ≡ s.journal → s.waiting ≡ [] → whole.journal.stopped ≡ false
        → whole.journal.acknowledged ≡ commit_count whole.engine.events
    acknowledged_in_whole whole engine journal none =
        subst (λ (x : EngineModel × JournalState D). x.1.stopped ≡ false → x.1.acknowledged ≡ commit_count x.0.events) (λ i. (sym engine i, sym journal i)) (acknowledged_if_none_waits none)

    -- a request was asked ahead
    pub asked_ahead : (new : Grouped D) → new.journal ≡ s.journal → new.engine.store ≡ s.engine.store → new.engine.names ≡ s.engine.names
        → ((H : List Event) → AreCommitsSince s.engine.store H s.engine.events s.waiting → AreCommitsSince new.engine.store H new.engine.events new.waiting)
        → new.left + size_of new.waiting ≡ s.left + size_of s.waiting → IsGrouped seen may_leave new
    asked_ahead new journal store names since left = record {
      until = is.until;
      keeps = subst (λ (x : Store × JournalState D). KeepsCommits seen may_leave x.0 is.until x.1.acknowledged x.1) (λ i. (sym store i, sym journal i)) is.keeps;
      since = since is.until is.since;
      all = subst (λ (j : JournalState D). j.stopped ≡ false → j.acknowledged ≡ commit_count is.until) (sym journal) is.all;
      label = ap (λ (j : JournalState D). j.layout.label) journal ∙ is.label ∙ sym (ap (λ (b : _). label_of b.tables) names);
      left = λ runs.
          let some = is.left (ap (λ (k : JournalState D). k.stopped) (sym journal) ∙ runs) in
          omega (arith, some, left, ap (λ (k : JournalState D). k.end) journal, ap (λ (k : JournalState D). half_size k.layout.capacity) journal);
    }

    -- the disk was renewed
    pub on_renewed : (new : Grouped D) → new.engine ≡ s.engine → new.waiting ≡ s.waiting
        → ((X : Store) (H : List Event) (n : ℕ) → KeepsCommits seen may_leave X H n s.journal → KeepsCommits seen may_leave X H n new.journal)
        → (new.journal.layout ≡ s.journal.layout) × (new.journal.acknowledged ≡ s.journal.acknowledged) × (new.journal.stopped ≡ s.journal.stopped)
        × (new.journal.end ≡ s.journal.end) → new.left ≡ s.left → IsGrouped seen may_leave new
    on_renewed new engine wait kept same left =
        let keeps = kept s.engine.store is.until s.journal.acknowledged is.keeps in
        record {
          until = is.until;
          keeps = subst (λ (e : EngineModel). KeepsCommits seen may_leave e.store is.until new.journal.acknowledged new.journal) (sym engine)
              (at_its_count s.engine.store is.until s.journal.acknowledged new.journal keeps);
          since = subst (λ (x : EngineModel × List Record). AreCommitsSince x.0.store is.until x.0.events x.1) (λ i. (sym engine i, sym wait i)) is.since;
          all = λ runs. same.1 ∙ is.all (sym same.2 ∙ runs);
          label = ap (λ (l : Layout). l.label) same.0 ∙ is.label ∙ sym (ap (λ (e : EngineModel). label_of e.names.tables) engine);
          left = λ runs. omega (arith, is.left (sym same.2 ∙ runs), left, same.3, ap size_of wait, ap (λ (l : Layout). half_size l.capacity) same.0);
        }

    -- the commits that waited were taken, and given to the journal
    module _ {T E : Type 0} (runs : s.journal.stopped ≡ false) (taken : List Record)
        (since : (H : List Event) → AreCommitsSince s.engine.store H s.engine.events s.waiting → AreCommitsSince s.engine.store H s.engine.events taken) (j : JournalState D) (result : Result T E)
        (kept : (X : Store) (H G : List Event) → KeepsCommits seen may_leave X H (commit_count H) s.journal → AreCommitsSince X H G taken
        → OnOk result (KeepsCommits seen may_leave X G (commit_count G) j))
        (not_kept : (X : Store) (H G : List Event) → KeepsCommits seen may_leave X H (commit_count H) s.journal → AreCommitsSince X H G taken
        → OnErr result (KeepsCommits seen may_leave X G (commit_count H) j))
        (running : OnOk result (j.stopped ≡ false)) (stopped : OnErr result (j.stopped ≡ true)) (end : OnOk result (j.end ≡ s.journal.end + size_of taken)) where
      abbrev X : Store
      X = s.engine.store

      abbrev G : List Event
      G = s.engine.events

      -- all of them were written, or the store is stopped
      all_kept : OnOk result (KeepsCommits seen may_leave X G (commit_count G) j)
      all_kept = kept X is.until G (keeps_until runs) (since is.until is.since)

      none_kept : OnErr result (KeepsCommits seen may_leave X G (commit_count is.until) j)
      none_kept = not_kept X is.until G (keeps_until runs) (since is.until is.since)

      pub is_written : (new : Grouped D) → new.engine ≡ s.engine → new.journal ≡ j → new.waiting ≡ [] → j.layout ≡ s.journal.layout → taken ≡ s.waiting → new.left ≡ s.left
          → IsGrouped seen may_leave new
      is_written new engine journal none layout all left = go result all_kept none_kept stopped end
        where
          go : (r : Result T E) → OnOk r (KeepsCommits seen may_leave X G (commit_count G) j) → OnErr r (KeepsCommits seen may_leave X G (commit_count is.until) j) → OnErr r (j.stopped ≡ true)
              → OnOk r (j.end ≡ s.journal.end + size_of taken) → IsGrouped seen may_leave new
          go (Ok x) keeps lost halted ends =
              none_waits new s.engine j engine journal none (at_its_count X G (commit_count G) j keeps) (λ _. keeps.acknowledged) (ap (λ (l : Layout). l.label) layout ∙ is.label)
              (λ _. omega (arith, is.left runs, left, ends, ap size_of all, ap (λ (l : Layout). half_size l.capacity) layout))
          go (Err e) keeps lost halted ends =
              none_waits new s.engine j engine journal none (at_its_count X G (commit_count is.until) j lost) (λ goes. absurd (cc (halted, goes))) (ap (λ (l : Layout). l.label) layout ∙ is.label)
              (λ goes. absurd (cc (halted, goes)))

      pub acknowledged_all : OnOk result ((j.stopped ≡ false) × (j.acknowledged ≡ s.journal.acknowledged + length s.waiting))
      acknowledged_all = go result all_kept running
        where
          go : (r : Result T E) → OnOk r (KeepsCommits seen may_leave X G (commit_count G) j) → OnOk r (j.stopped ≡ false)
              → OnOk r ((j.stopped ≡ false) × (j.acknowledged ≡ s.journal.acknowledged + length s.waiting))
          go (Ok x) keeps goes = (goes, keeps.acknowledged ∙ sym (counted runs))
          go (Err e) keeps goes = tt

      pub acknowledged_none : OnErr result ((j.stopped ≡ true) × (j.acknowledged ≡ s.journal.acknowledged))
      acknowledged_none = go result none_kept stopped
        where
          go : (r : Result T E) → OnErr r (KeepsCommits seen may_leave X G (commit_count is.until) j) → OnErr r (j.stopped ≡ true)
              → OnErr r ((j.stopped ≡ true) × (j.acknowledged ≡ s.journal.acknowledged))
          go (Ok x) lost halted = tt
          go (Err e) lost halted = (halted, lost.acknowledged ∙ sym (is.all runs))
