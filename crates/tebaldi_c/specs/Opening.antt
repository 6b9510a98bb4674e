-- The store that a tree text is.
use Rattle.std.specs.Prelude.{◌≡◌, ℕ, List, [], Result, Ok, Err, Option, Some, None}
use Rattle.store_setup.specs.SetupView.{SetupView}
use Rattle.store_setup.specs.Stores.{store_of_view, names_of}
use Rattle.tree_toml.specs.Texts.{fault_text}
use Rattle.tree_toml.specs.declared.fault.TreeTextError.{TreeTextError}
use Rattle.engine_core.specs.EngineModel.{EngineModel}
use Rattle.tebaldi_c.specs.Shelves.{ShelfState}

-- the engine is one of this setup, and nothing has happened yet
pub record IsNew (m : SetupView) (e : EngineModel) : Type 0 where
  pub store : e.store ≡ store_of_view m
  pub names : e.names ≡ names_of m
  pub events : e.events ≡ []

-- a setup was read, and the store is one of it, in memory
abbrev pub IsNewOf : Result SetupView TreeTextError → ShelfState → Type 0
IsNewOf (Ok m) s = IsNew m s.engine × (s.file ≡ None)
IsNewOf (Err why) s = ⊥

-- the line of a fault
abbrev pub fault_line : Result SetupView TreeTextError → Option (List ℕ)
fault_line (Ok m) = None
fault_line (Err why) = Some (fault_text why)
