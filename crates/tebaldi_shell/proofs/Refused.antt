-- Why the next epoch does not begin, which commit does not fit, and why the shell does not start.
use Rattle.std.proofs.Common.{◌≡◌, ℕ, ◌-◌, Bool, true, false, cond, List, length, Option, Some, None, Ok, refl, sym, ap, ◌∙◌, subst}
use Rattle.teb_rules.specs.declared.names.Session.{Session}
use Rattle.teb_rules.specs.declared.names.Request.{Request}
use Rattle.teb_rules.specs.declared.names.Request.TheVariants as request
use Rattle.teb_rules.specs.declared.history.Event.{Event}
use Rattle.teb_rules.specs.history.Phases.{held, unfinished}
use Rattle.teb_rules.specs.names.Rows.{row_of}
use Rattle.store_setup.specs.SetupView.{SetupView}
use Rattle.tree_toml.specs.SetupText.{setup_of_text}
use Rattle.engine_core.specs.EngineModel.{EngineModel, IsOfEngine}
use Rattle.commit_journal.specs.Kept.{IsFull, committing, if_unfinished}
use Rattle.epoch_journal.specs.Layout.{Layout, half_size, layout}
use Rattle.engine_store.specs.Label.{label_of}
use Rattle.engine_store.specs.Next.{IsCause}
use Rattle.engine_store.specs.Opening.{IsRefused}
use Rattle.engine_store.specs.declared.open_error.OpenError.{OpenError}
use Rattle.engine_store.specs.declared.open_error.OpenError.TheVariants as opening
use Rattle.engine_store.specs.declared.error.NextError.{NextError}
use Rattle.engine_store.specs.declared.error.NextError.TheVariants as next
use Rattle.shell_runner.specs.States.{IsEpochRefused, IsReached, LacksRoom}
use Rattle.shell_runner.specs.declared.store.EpochError.{EpochError}
use Rattle.shell_runner.specs.declared.store.EpochError.TheVariants as errors
use Rattle.tebaldi_shell.specs.Kept.{IsEpochError, KeptModel, stored_of}
use Rattle.tebaldi_shell.specs.Starts.{IsRefusedDisk, IsRefusedStart, start_of}
use Rattle.tebaldi_shell.specs.declared.serving.StartError.{StartError}

pub epoch_refused : (l : Layout) (e : EngineModel) (tables : List (List ℕ)) (why : NextError) (w : EpochError) → IsCause l e tables why → IsEpochError why w
    → IsEpochRefused e.events w
epoch_refused l e tables next.Stopped w cause is = absurd is
epoch_refused l e tables (next.Again t) w cause is = subst (IsEpochRefused e.events) (sym is) cause.0
epoch_refused l e tables (next.Untold s) w cause is = subst (IsEpochRefused e.events) (sym is) cause.1.0
epoch_refused l e tables next.OtherTables w cause is = absurd is
epoch_refused l e tables next.Full w cause is = subst (IsEpochRefused e.events) (sym is) cause.0.drained
epoch_refused l e tables next.DiskFault w cause is = subst (IsEpochRefused e.events) (sym is) cause.drained
epoch_refused l e tables next.OutOfMemory w cause is = subst (IsEpochRefused e.events) (sym is) tt

-- the shell is told of a fault of the disk only after one
pub disk_fault : (why : NextError) (w : EpochError) → IsEpochError why w → w ≡ errors.DiskFault → why ≡ next.DiskFault
disk_fault next.Stopped w is e = absurd is
disk_fault (next.Again t) w is e = absurd (let p : w ≡ errors.Unfinished t = is in cc)
disk_fault (next.Untold s) w is e = absurd (let p : w ≡ errors.Untold s = is in cc)
disk_fault next.OtherTables w is e = absurd is
disk_fault next.Full w is e = absurd (let p : w ≡ errors.Full = is in cc)
disk_fault next.DiskFault w is e = refl
disk_fault next.OutOfMemory w is e = absurd (let p : w ≡ errors.OutOfMemory = is in cc)

-- the session holds the unfinished transaction that it asks to commit
record IsCommitOf (H : List Event) (s : Session) (r : Request) (txn : ℕ) : Type 0 where
  asks : r ≡ request.Commit
  holds : held H s.0 ≡ Some txn
  running : unfinished H txn ≡ true

commit_of : (H : List Event) (s : Session) (r : Request) (txn : ℕ) → committing H s r ≡ Some txn → IsCommitOf H s r txn
commit_of H s request.Commit txn e = go (held H s.0) refl e
  where
    of : (t : ℕ) (b : Bool) → held H s.0 ≡ Some t → unfinished H t ≡ b → cond b (Some t) None ≡ Some txn → IsCommitOf H s request.Commit txn
    of t true h u q = let same : t ≡ txn = cc in record { asks = refl; holds = h ∙ ap (λ (n : ℕ). Some n) same; running = subst (λ (n : ℕ). unfinished H n ≡ true) same u }
    of t false h u q = absurd (cc)

    go : (o : Option ℕ) → held H s.0 ≡ o → if_unfinished H o ≡ Some txn → IsCommitOf H s request.Commit txn
    go None h q = absurd (cc)
    go (Some t) h q = of t (unfinished H t) h refl q
commit_of H s _ txn e = absurd (cc)

-- a commit that does not fit in the journal
pub lacks_room : {D : Type 0} (s : KeptModel D) (session : Session) (r : Request) → IsFull s.engine.events (half_size s.journal.layout.capacity - s.journal.end) session r
    → LacksRoom (stored_of s) session r
lacks_room s session r full =
    let c = commit_of s.engine.events session r full.txn full.commits in
    record { txn = full.txn; asks = c.asks; holds = c.holds; unfinished = c.running; full = full.full }

-- an engine's history is one that requests lead to
pub reached_by : {D : Type 0} (s : KeptModel D) → IsOfEngine s.engine → IsReached (stored_of s)
reached_by s of = record { sound = of.sound; asked = of.reached.0; leads = of.reached.1 }

-- a disk that was refused is the reason that is told
module _ {D : Type 0} (seen : D → List ℕ) (may_leave : D → List ℕ → Type 0) (faults : D → ℕ) (moment : D → ℕ) (left_since : D → ℕ → List ℕ → Type 0) (capacity : D → ℕ)
    (tree : List ℕ) (disk : D) (view : SetupView) (read : setup_of_text tree ≡ Ok view) (back : D) where
  abbrev pub IsRefusedFor : OpenError → Type 0
  IsRefusedFor cause = IsRefused seen may_leave moment left_since faults capacity (layout (capacity disk) (label_of view.tables)) (row_of view.rows) (length view.tables) disk back cause

  refused_disk : (cause : OpenError) → IsRefusedFor cause → IsRefusedDisk seen may_leave faults moment left_since capacity tree disk (start_of cause)
  refused_disk cause r = record { view = view; read = read; back = back; cause = cause; refused = r; told = refl }

  refused_as : (cause : OpenError) → IsRefusedFor cause → IsRefusedStart seen may_leave faults moment left_since capacity tree disk (start_of cause)
  refused_as opening.Full r = refused_disk opening.Full r
  refused_as opening.DiskFault r = refused_disk opening.DiskFault r
  refused_as (opening.Damaged at) r = refused_disk (opening.Damaged at) r
  refused_as opening.OtherCapacity r = refused_disk opening.OtherCapacity r
  refused_as opening.OtherTables r = refused_disk opening.OtherTables r
  refused_as opening.OutOfMemory r = tt

  pub refused_start : (cause : OpenError) (why : StartError) → IsRefusedFor cause → why ≡ start_of cause → IsRefusedStart seen may_leave faults moment left_since capacity tree disk why
  refused_start cause why r is = subst (IsRefusedStart seen may_leave faults moment left_since capacity tree disk) (sym is) (refused_as cause r)
