-- Why the shell does not start.
use Rattle.std.specs.Prelude.{◌≡◌, ℕ, List, length, Ok, Err}
use Rattle.teb_rules.specs.names.Rows.{row_of}
use Rattle.store_setup.specs.SetupView.{SetupView}
use Rattle.tree_toml.specs.SetupText.{setup_of_text}
use Rattle.epoch_journal.specs.Layout.{layout}
use Rattle.engine_store.specs.Label.{label_of}
use Rattle.engine_store.specs.Opening.{IsRefused}
use Rattle.engine_store.specs.declared.open_error.OpenError.{OpenError}
use Rattle.engine_store.specs.declared.open_error.OpenError.TheVariants as opening
use Rattle.tebaldi_shell.specs.declared.serving.StartError.{StartError}
use Rattle.tebaldi_shell.specs.declared.serving.StartError.TheVariants as start

-- the error of an opening, as the shell has it
abbrev pub start_of : OpenError → StartError
start_of opening.Full = start.Full
start_of opening.DiskFault = start.DiskFault
start_of (opening.Damaged at) = start.Damaged
start_of opening.OtherCapacity = start.OtherCapacity
start_of opening.OtherTables = start.OtherTables
start_of opening.OutOfMemory = start.OutOfMemory

module _ {D : Type 0} (seen : D → List ℕ) (may_leave : D → List ℕ → Type 0) (faults : D → ℕ) (moment : D → ℕ) (left_since : D → ℕ → List ℕ → Type 0) (capacity : D → ℕ)
    (tree : List ℕ) (disk : D) where
  -- the tree text was read, and the disk is no store under its tables, or opening it failed, for this reason
  pub record IsRefusedDisk (why : StartError) : Type 0 where
    pub view : SetupView
    pub read : setup_of_text tree ≡ Ok view
    pub back : D
    pub cause : OpenError
    pub refused : IsRefused seen may_leave moment left_since faults capacity (layout (capacity disk) (label_of view.tables)) (row_of view.rows) (length view.tables) disk back cause
    pub told : why ≡ start_of cause

  -- the fault that is told of a tree text is its own; memory may be out at any time; each other reason is one of the disk
  abbrev pub IsRefusedStart : StartError → Type 0
  IsRefusedStart (start.BadTree fault) = setup_of_text tree ≡ Err fault
  IsRefusedStart start.OtherTables = IsRefusedDisk start.OtherTables
  IsRefusedStart start.OtherCapacity = IsRefusedDisk start.OtherCapacity
  IsRefusedStart start.Full = IsRefusedDisk start.Full
  IsRefusedStart start.Damaged = IsRefusedDisk start.Damaged
  IsRefusedStart start.DiskFault = IsRefusedDisk start.DiskFault
  IsRefusedStart start.OutOfMemory = Unit {0}
