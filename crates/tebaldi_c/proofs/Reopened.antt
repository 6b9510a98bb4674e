-- A store that is opened over the bytes of a file has what they tell.
use Rattle.std.proofs.Common.{◌≡◌, ◌⊎◌, ◌+◌, ◌<◌, ◌≤◌, ℕ, List, false, length, refl, sym, subst}
use Rattle.teb_rules.specs.declared.names.Cell.{Cell}
use Rattle.teb_rules.specs.names.Rows.{row_of}
use Rattle.teb_rules.specs.declared.history.Event.{Event}
use Rattle.teb_rules.specs.Accepted.{IsSound}
use Rattle.teb_rules.specs.Setup.{Store}
use Rattle.teb_rules.specs.laws.Lawful.{Lawful}
use Rattle.store_setup.specs.declared.Setup.{Setup}
use Rattle.store_setup.specs.SetupView.{setup_view}
use Rattle.commit_laws.specs.Commits.{commit_count, rows_after}
use Rattle.crash_disk.specs.Disk.{LeavesOnly, Only}
use Rattle.crash_disk.specs.Log.{LeftSince, MayLeave, contents}
use Rattle.crash_disk.specs.declared.memory.MemDisk.{MemDisk}
use Rattle.epoch_journal.specs.State.{JournalState}
use Rattle.engine_core.specs.EngineModel.{EngineModel}
use Rattle.epoch_journal.specs.Layout.{half_size}
use Rattle.epoch_journal.specs.Read.{HasOtherCapacity, HasOtherLabel, IsDamaged}
use Rattle.engine_store.specs.Opening.{HasForeignRow, HasTable, HasTooMany, IsBeginning, layout_of}
use Rattle.engine_store.specs.declared.open_error.OpenError.{OpenError}
use Rattle.engine_store.specs.declared.open_error.OpenError.TheVariants as errors
use Rattle.engine_store.specs.Telling.{TellsCommits}
use Rattle.tebaldi_c.specs.Images.{IsFault, IsReopened, file_capacity}
use Rattle.tebaldi_c.specs.Shelves.{Filed, FileState, calls, next_place}
use Rattle.tebaldi_c.proofs.Files.{clock, images}

-- why the bytes of a disk in memory are refused
pub refused : (s : Setup) (bytes seen : List ℕ) (capacity : ℕ) (why : OpenError) → seen ≡ bytes → capacity ≡ file_capacity
    → ((at : ℕ) → why ≡ errors.Damaged at → IsDamaged (layout_of capacity s) at seen ⊎ HasForeignRow (layout_of capacity s) (row_of s.rows) (length s.names.tables) at seen)
    → (why ≡ errors.OtherCapacity → HasOtherCapacity (layout_of capacity s) seen) → (why ≡ errors.OtherTables → HasOtherLabel (layout_of capacity s) seen)
    → (why ≡ errors.Full → (half_size capacity < 10 + length (layout_of capacity s).label) ⊎ HasTooMany (layout_of capacity s) (row_of s.rows) seen)
    → IsFault (setup_view s) bytes why
refused s bytes seen capacity (errors.Damaged at) same is damaged oc ot full = subst
    (λ (x : ℕ × List ℕ). IsDamaged (layout_of x.0 s) at x.1 ⊎ HasForeignRow (layout_of x.0 s) (row_of s.rows) (length s.names.tables) at x.1) (λ i. (is i, same i)) (damaged at refl)
refused s bytes seen capacity errors.OtherCapacity same is d oc ot full = subst (λ (x : ℕ × List ℕ). HasOtherCapacity (layout_of x.0 s) x.1) (λ i. (is i, same i)) (oc refl)
refused s bytes seen capacity errors.OtherTables same is d oc ot full = subst (λ (x : ℕ × List ℕ). HasOtherLabel (layout_of x.0 s) x.1) (λ i. (is i, same i)) (ot refl)
refused s bytes seen capacity errors.Full same is d oc ot full = subst (λ (x : ℕ × List ℕ). (half_size x.0 < 10 + length (layout_of x.0 s).label) ⊎ HasTooMany (layout_of x.0 s) (row_of s.rows) x.1)
    (λ i. (is i, same i)) (full refl)
refused s bytes seen capacity errors.DiskFault same is d oc ot full = tt
refused s bytes seen capacity errors.OutOfMemory same is d oc ot full = tt

-- every image that a crash may leave of the disk tells these commits
abbrev AllTell : ℕ → Setup → Store → List Event → ℕ → MemDisk → Type 0
AllTell capacity s X H least disk = (image : List ℕ) → MayLeave disk.log.steps image → TellsCommits (layout_of capacity s) X H least image

only_bytes : (capacity : ℕ) (s : Setup) (X : Store) (H : List Event) (least : ℕ) (disk : MemDisk) (bytes : List ℕ) → Only bytes (MayLeave disk.log.steps)
    → TellsCommits (layout_of capacity s) X H least bytes → AllTell capacity s X H least disk
only_bytes capacity s X H least disk bytes only tells image left = subst (TellsCommits (layout_of capacity s) X H least) (sym (only image left)) tells

module _ (s : Setup) (bytes : List ℕ) (disk : MemDisk) (e : EngineModel) (j : JournalState MemDisk) where
  at_capacity : (capacity : ℕ) (f : FileState) → capacity ≡ file_capacity → f.journal ≡ j → (length disk.log.steps ≤ length (calls f) → next_place f ≡ length disk.log.steps) → f.failed ≡ false
      → contents disk.log.steps ≡ bytes → Only bytes (MayLeave disk.log.steps) → IsBeginning s e
      → HasTable (layout_of capacity s) (row_of s.rows) (row_of e.store.rows) (contents disk.log.steps)
      → ((X : Store) (H : List Event) (least : ℕ) → IsSound X.setup → Lawful X.setup H → AllTell capacity s X H least disk
      → (k : ℕ) × (least ≤ k) × (k ≤ commit_count H) × ((x : Cell) → row_of e.store.rows x ≡ rows_after X H k x))
      → ((X : Store) (H : List Event) (least : ℕ) → AllTell capacity s X H least disk → LeavesOnly clock images disk j.disk (TellsCommits (layout_of capacity s) X H least))
      → IsReopened (setup_view s) bytes (record { engine = e; file = f })
  at_capacity capacity f is journal place running seen only begun read found moments = record {
    setup = begun.setup;
    tables = begun.tables;
    names = begun.names;
    events = begun.events;
    rows = subst (λ (n : ℕ). HasTable (layout_of n s) (row_of s.rows) (row_of e.store.rows) bytes) is (subst (HasTable (layout_of capacity s) (row_of s.rows) (row_of e.store.rows)) seen read);
    running = running;
    found = λ X H least sound lawful tells. found X H least sound lawful (only_bytes capacity s X H least disk bytes only (back X H least bytes tells));
    any_moment = λ X H least tells image left.
        subst (λ (n : ℕ). TellsCommits (layout_of n s) X H least image) is
        (let m = moments X H least (only_bytes capacity s X H least disk bytes only (back X H least bytes tells)) in
        let at = place (subst (λ (i : _). length disk.log.steps ≤ length i.disk.log.steps) (sym journal) m.later) in
        m.each image (subst (λ (t : ℕ). LeftSince j.disk.log.steps t image) at (subst (λ (i : _). LeftSince i.disk.log.steps (next_place f) image) journal left)));
  }
    where
      back : (X : Store) (H : List Event) (least : ℕ) (image : List ℕ) → TellsCommits (layout_of file_capacity s) X H least image → TellsCommits (layout_of capacity s) X H least image
      back X H least image = subst (λ (n : ℕ). TellsCommits (layout_of n s) X H least image) (sym is)

  pub reopened : (f : Filed) → f.engine ≡ e → f.file.journal ≡ j → disk.capacity ≡ file_capacity → (length disk.log.steps ≤ length (calls f.file) → next_place f.file ≡ length disk.log.steps)
      → f.file.failed ≡ false
      → contents disk.log.steps ≡ bytes → Only bytes (MayLeave disk.log.steps) → IsBeginning s e
      → HasTable (layout_of disk.capacity s) (row_of s.rows) (row_of e.store.rows) (contents disk.log.steps)
      → ((X : Store) (H : List Event) (least : ℕ) → IsSound X.setup → Lawful X.setup H → AllTell disk.capacity s X H least disk
      → (k : ℕ) × (least ≤ k) × (k ≤ commit_count H) × ((x : Cell) → row_of e.store.rows x ≡ rows_after X H k x))
      → ((X : Store) (H : List Event) (least : ℕ) → AllTell disk.capacity s X H least disk → LeavesOnly clock images disk j.disk (TellsCommits (layout_of disk.capacity s) X H least))
      → IsReopened (setup_view s) bytes f
  reopened f engine journal capacity place running seen only begun read found moments =
      subst (λ (d : EngineModel). IsReopened (setup_view s) bytes (record { engine = d; file = f.file })) (sym engine)
      (at_capacity disk.capacity f.file capacity journal place running seen only begun read found moments)
