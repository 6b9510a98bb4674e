-- How a store goes on with the next epoch.
use Rattle.std.specs.Prelude.{◌≡◌, ◌≢◌, ◌⊎◌, ℕ, List, [], Option, Some, Result, Ok, Err}
use Rattle.store_setup.specs.SetupView.{SetupView}
use Rattle.store_setup.specs.Stores.{store_of_view, names_of}
use Rattle.teb_rules.specs.Epochs.{AreFinalRows, IsDrained, IsUntold}
use Rattle.tree_switch.specs.Refusals.{AllFinished, IsLeast, IsUnfinished}
use Rattle.tree_switch.specs.declared.error.SwitchError.{SwitchError}
use Rattle.tree_switch.specs.declared.error.SwitchError.TheVariants.{Again, Untold, Tables, Rows, OutOfMemory}
use Rattle.tree_toml.specs.declared.fault.TreeTextError.{TreeTextError}
use Rattle.engine_core.specs.EngineModel.{EngineModel}
use Rattle.tebaldi_c.specs.Shelves.{ShelfState}
use Rattle.tebaldi_c.specs.declared.status.TheConstants.{OK, NOT_OPEN, BAD_TREE, OUT_OF_MEMORY, OTHER_TABLES, UNFINISHED, UNTOLD, STOPPED, NO_ROOM, WAITING}

-- an engine of this setup in which nothing has happened, with the rows that the one before it left
pub record IsNext (m : SetupView) (before e : EngineModel) : Type 0 where
  pub setup : e.store.setup ≡ (store_of_view m).setup
  pub tables : e.store.tables ≡ (store_of_view m).tables
  pub names : e.names ≡ names_of m
  pub events : e.events ≡ []
  pub rows : AreFinalRows before.store before.events e.store.rows

-- a setup was read, and the store goes on under it
abbrev pub IsNextOf : Result SetupView TreeTextError → EngineModel → EngineModel → Type 0
IsNextOf (Ok m) before e = IsNext m before e
IsNextOf (Err why) before e = ⊥

-- this is the least unfinished transaction; or none is unfinished, and it is the least session that was not told of the abort of its transaction
unfoldable pub IsFirstUnfinished : EngineModel → ℕ → Type 0
IsFirstUnfinished e t = IsLeast (IsUnfinished e.events) t

unfoldable pub IsFirstUntold : EngineModel → ℕ → Type 0
IsFirstUntold e s = AllFinished e.events × IsLeast (IsUntold e.events) s

-- what is told of a refusal by a store over these tables: the setup has no rows of its own
abbrev pub IsHindrance : EngineModel → List (List ℕ) → SwitchError → Type 0
IsHindrance e tables (Again t) = IsLeast (IsUnfinished e.events) t.0
IsHindrance e tables (Untold s) = AllFinished e.events × IsLeast (IsUntold e.events) s.0
IsHindrance e tables Tables = IsDrained e.events × (tables ≢ e.names.tables)
IsHindrance e tables Rows = ⊥
IsHindrance e tables OutOfMemory = Unit {0}

-- a setup was read, and its tables are not those of the store
abbrev pub HasOtherTables : Result SetupView TreeTextError → EngineModel → Type 0
HasOtherTables (Ok m) e = m.tables ≢ e.names.tables
HasOtherTables (Err why) e = ⊥

-- there is a store before and after a call
abbrev pub IfBoth : Option ShelfState → Option ShelfState → (EngineModel → EngineModel → Type 0) → Type 0
IfBoth (Some old) (Some new) P = P old.engine new.engine
IfBoth _ _ P = ⊥

-- why an epoch of a store without a file has not begun
abbrev pub IsOfMemoryNext : ℕ → Type 0
IsOfMemoryNext n = (n ≡ OUT_OF_MEMORY) ⊎ (n ≡ OTHER_TABLES) ⊎ (n ≡ UNFINISHED) ⊎ (n ≡ UNTOLD)

-- what the next epoch of a store without a file may return
abbrev pub IsOfMemoryEpoch : ℕ → Type 0
IsOfMemoryEpoch n = (n ≡ OK) ⊎ (n ≡ NOT_OPEN) ⊎ (n ≡ BAD_TREE) ⊎ IsOfMemoryNext n

-- why an epoch has not begun
abbrev pub IsOfNext : ℕ → Type 0
IsOfNext n = (n ≡ OUT_OF_MEMORY) ⊎ (n ≡ OTHER_TABLES) ⊎ (n ≡ UNFINISHED) ⊎ (n ≡ UNTOLD) ⊎ (n ≡ STOPPED) ⊎ (n ≡ NO_ROOM) ⊎ (n ≡ WAITING)

-- what the next epoch may return
abbrev pub IsOfEpoch : ℕ → Type 0
IsOfEpoch n = (n ≡ OK) ⊎ (n ≡ NOT_OPEN) ⊎ (n ≡ BAD_TREE) ⊎ IsOfNext n
