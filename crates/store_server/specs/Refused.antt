-- Why a store is not opened.
use Rattle.std.specs.Prelude.{◌≡◌, ℕ, List, Ok, Err, length}
use Rattle.teb_rules.specs.names.Rows.{row_of}
use Rattle.store_setup.specs.SetupView.{SetupView}
use Rattle.tree_toml.specs.Reading.{UnlessMemory}
use Rattle.tree_toml.specs.SetupText.{setup_of_text}
use Rattle.crash_disk.specs.Disk.{Only}
use Rattle.crash_disk.specs.Log.{contents, LeftSince, MayLeave}
use Rattle.file_disk.specs.declared.disk.FileDisk.{FileDisk}
use Rattle.engine_store.specs.Opening.{IsRefused}
use Rattle.engine_store.specs.declared.open_error.OpenError.{OpenError}
use Rattle.store_server.specs.Found.{layout_under}
use Rattle.store_server.specs.declared.error.OpenStoreError.{OpenStoreError}
use Rattle.store_server.specs.declared.error.OpenStoreError.TheVariants.{BadTree, Disk}

module _ {D : Type 0} (seen : D → List ℕ) (may_leave : D → List ℕ → Type 0) (moment : D → ℕ) (left_since : D → ℕ → List ℕ → Type 0) (faults capacity : D → ℕ)
    (text : List ℕ) (disk back : D) where
  -- the disk is no store under the tables of the tree, or opening it failed
  pub record IsNoStore (why : OpenError) : Type 0 where
    pub view : SetupView
    pub read : setup_of_text text ≡ Ok view
    pub refused : IsRefused seen may_leave moment left_since faults capacity (layout_under (capacity disk) view) (row_of view.rows) (length view.tables) disk back why

  -- what is so if a disk is handed back for this reason; the fault of a refused text is the one that its rules give
  abbrev pub IsNotOpened : OpenStoreError → Type 0
  IsNotOpened (BadTree fault) = (back ≡ disk) × UnlessMemory fault (setup_of_text text ≡ Err fault)
  IsNotOpened (Disk why) = IsNoStore why

-- what is so if a file is refused for this reason: it was a disk of that capacity, all of whose bytes were safe
pub record IsFileRefused (capacity : ℕ) (text : List ℕ) (why : OpenStoreError) : Type 0 where
  pub disk : FileDisk
  pub back : FileDisk
  pub safe : Only (contents disk.mirror.log.steps) (MayLeave disk.mirror.log.steps)
  pub size : disk.mirror.capacity ≡ capacity
  pub refused : IsNotOpened (λ (d : FileDisk). contents d.mirror.log.steps) (λ (d : FileDisk). MayLeave d.mirror.log.steps) (λ (d : FileDisk). length d.mirror.log.steps)
      (λ (d : FileDisk). LeftSince d.mirror.log.steps) (λ (d : FileDisk). d.faults.count) (λ (d : FileDisk). d.mirror.capacity) text disk back why
