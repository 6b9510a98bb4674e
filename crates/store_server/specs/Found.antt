-- What an opened store begins with.
use Rattle.std.specs.Prelude.{◌≡◌, ◌≤◌, ℕ, List, [], Ok}
use Rattle.teb_rules.specs.declared.names.Cell.{Cell}
use Rattle.teb_rules.specs.names.Rows.{row_of}
use Rattle.teb_rules.specs.declared.history.Event.{Event}
use Rattle.teb_rules.specs.Accepted.{IsSound}
use Rattle.teb_rules.specs.Setup.{Store}
use Rattle.teb_rules.specs.laws.Lawful.{Lawful}
use Rattle.store_setup.specs.SetupView.{SetupView}
use Rattle.engine_core.specs.EngineModel.{EngineModel}
use Rattle.commit_laws.specs.Commits.{commit_count, rows_after}
use Rattle.epoch_journal.specs.Layout.{Layout, layout}
use Rattle.engine_store.specs.Label.{label_of}
use Rattle.engine_store.specs.Opening.{HasTable}
use Rattle.engine_store.specs.Telling.{AllTellCommits}
use Rattle.tree_toml.specs.SetupText.{setup_of_text}

-- where everything is on a disk with the tables of a tree
abbrev pub layout_under : ℕ → SetupView → Layout
layout_under capacity m = layout capacity (label_of m.tables)

-- an engine in which nothing has happened, with the rows that the disk has. Of a disk that a crash left, they are those after the first k
-- commits of the last epoch, for a k that is at least the number of those that were answered
pub record IsFound {D : Type 0} (seen : D → List ℕ) (may_leave : D → List ℕ → Type 0) (capacity : ℕ) (text : List ℕ) (disk : D) (e : EngineModel) : Type 0 where
  pub view : SetupView
  pub read : setup_of_text text ≡ Ok view
  pub events : e.events ≡ []
  pub rows : HasTable (layout_under capacity view) (row_of view.rows) (row_of e.store.rows) (seen disk)
  pub found : (X : Store) (H : List Event) (least : ℕ) → IsSound X.setup → Lawful X.setup H → AllTellCommits may_leave (layout_under capacity view) X H least disk
      → (k : ℕ) × (least ≤ k) × (k ≤ commit_count H) × ((x : Cell) → row_of e.store.rows x ≡ rows_after X H k x)
