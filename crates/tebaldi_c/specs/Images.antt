-- The store that the bytes of a file are.
use Rattle.std.specs.Prelude.{◌≡◌, ◌⊎◌, ◌+◌, ◌<◌, ◌≤◌, ℕ, [], false, List, length, Option, Some, None, Result, Ok, Err}
use Rattle.teb_rules.specs.declared.names.Cell.{Cell}
use Rattle.teb_rules.specs.names.Rows.{row_of}
use Rattle.teb_rules.specs.declared.history.Event.{Event}
use Rattle.teb_rules.specs.Accepted.{IsSound}
use Rattle.teb_rules.specs.Setup.{Store}
use Rattle.teb_rules.specs.laws.Lawful.{Lawful}
use Rattle.store_setup.specs.SetupView.{SetupView}
use Rattle.store_setup.specs.Stores.{store_of_view, names_of}
use Rattle.tree_toml.specs.declared.fault.TreeTextError.{TreeTextError}
use Rattle.commit_laws.specs.Commits.{commit_count, rows_after}
use Rattle.crash_disk.specs.Log.{LeftSince}
use Rattle.epoch_journal.specs.Layout.{Layout, layout, half_size}
use Rattle.epoch_journal.specs.Read.{HasOtherCapacity, HasOtherLabel, IsDamaged}
use Rattle.engine_core.specs.EngineModel.{EngineModel}
use Rattle.engine_store.specs.Label.{label_of}
use Rattle.engine_store.specs.Opening.{HasForeignRow, HasTable, HasTooMany}
use Rattle.engine_store.specs.declared.open_error.OpenError.{OpenError}
use Rattle.engine_store.specs.declared.open_error.OpenError.TheVariants as errors
use Rattle.engine_store.specs.Telling.{TellsCommits}
use Rattle.tebaldi_c.specs.Shelves.{FileState, Filed, ShelfState, calls, next_place}
use Rattle.tebaldi_c.specs.declared.status.TheConstants.{TOO_LONG, DAMAGED, OTHER_CAPACITY, OTHER_TABLES, NO_ROOM, OUT_OF_MEMORY}

-- how many bytes a file can have, as that of the shell
abbrev pub file_capacity : ℕ
file_capacity = 67108864

abbrev pub file_layout : SetupView → Layout
file_layout m = layout file_capacity (label_of m.tables)

-- nothing has happened in the engine; its rows are those that the bytes have, or those of the setup if they have none
pub record IsReopened (m : SetupView) (bytes : List ℕ) (f : Filed) : Type 0 where
  pub setup : f.engine.store.setup ≡ (store_of_view m).setup
  pub tables : f.engine.store.tables ≡ (store_of_view m).tables
  pub names : f.engine.names ≡ names_of m
  pub events : f.engine.events ≡ []
  pub rows : HasTable (file_layout m) (row_of m.rows) (row_of f.engine.store.rows) bytes
  pub running : f.file.failed ≡ false
  -- of bytes that have the rows after the first commits of a history, at least so many: these rows, after no fewer commits
  pub found : (X : Store) (H : List Event) (least : ℕ) → IsSound X.setup → Lawful X.setup H → TellsCommits (file_layout m) X H least bytes
      → (k : ℕ) × (least ≤ k) × (k ≤ commit_count H) × ((x : Cell) → row_of f.engine.store.rows x ≡ rows_after X H k x)
  -- and a crash while the calls of the opening are performed leaves no fewer
  pub any_moment : (X : Store) (H : List Event) (least : ℕ) → TellsCommits (file_layout m) X H least bytes
      → (image : List ℕ) → LeftSince (calls f.file) (next_place f.file) image → TellsCommits (file_layout m) X H least image

-- the store is in a file, and this holds of it
abbrev pub IfFiledBy : EngineModel → Option FileState → (Filed → Type 0) → Type 0
IfFiledBy e None P = ⊥
IfFiledBy e (Some f) P = P (record { engine = e; file = f })

abbrev pub IfFiled : ShelfState → (Filed → Type 0) → Type 0
IfFiled s P = IfFiledBy s.engine s.file P

-- a setup was read, and the store is that of the bytes under it
abbrev pub IsReopenedOf : Result SetupView TreeTextError → List ℕ → ShelfState → Type 0
IsReopenedOf (Ok m) bytes s = IfFiled s (IsReopened m bytes)
IsReopenedOf (Err why) bytes s = ⊥

-- why the bytes are no store over the tables of a setup
abbrev pub IsFault : SetupView → List ℕ → OpenError → Type 0
IsFault m bytes (errors.Damaged at) = IsDamaged (file_layout m) at bytes ⊎ HasForeignRow (file_layout m) (row_of m.rows) (length m.tables) at bytes
IsFault m bytes errors.OtherCapacity = HasOtherCapacity (file_layout m) bytes
IsFault m bytes errors.OtherTables = HasOtherLabel (file_layout m) bytes
IsFault m bytes errors.Full = (half_size (file_layout m).capacity < 10 + length (file_layout m).label) ⊎ HasTooMany (file_layout m) (row_of m.rows) bytes
IsFault m bytes errors.DiskFault = Unit {0}
IsFault m bytes errors.OutOfMemory = Unit {0}

-- a setup was read, and this is why the bytes are no store over its tables
abbrev pub IsFaultOf : Result SetupView TreeTextError → List ℕ → OpenError → Type 0
IsFaultOf (Ok m) bytes error = IsFault m bytes error
IsFaultOf (Err why) bytes error = ⊥

-- why bytes are not opened
abbrev pub IsOfImage : ℕ → Type 0
IsOfImage n = (n ≡ TOO_LONG) ⊎ (n ≡ DAMAGED) ⊎ (n ≡ OTHER_CAPACITY) ⊎ (n ≡ OTHER_TABLES) ⊎ (n ≡ NO_ROOM) ⊎ (n ≡ OUT_OF_MEMORY)
