-- A run of the shell over the store that a disk has.
use Rattle.std.specs.Prelude.{◌≡◌, ◌≤◌, ℕ, List, [], Option, Ok}
use Rattle.teb_rules.specs.declared.names.Cell.{Cell}
use Rattle.teb_rules.specs.names.Rows.{row_of}
use Rattle.teb_rules.specs.declared.history.Event.{Event}
use Rattle.teb_rules.specs.Setup.{Store}
use Rattle.teb_rules.specs.Accepted.{IsSound}
use Rattle.teb_rules.specs.laws.Lawful.{Lawful}
use Rattle.store_setup.specs.SetupView.{SetupView}
use Rattle.tree_toml.specs.SetupText.{setup_of_text}
use Rattle.crash_disk.specs.Disk.{LeavesOnly}
use Rattle.commit_laws.specs.Commits.{commit_count, rows_after}
use Rattle.epoch_journal.specs.Layout.{Layout, layout}
use Rattle.engine_store.specs.Label.{label_of}
use Rattle.engine_store.specs.Opening.{HasTable}
use Rattle.engine_store.specs.Telling.{AllTellCommits, TellsCommits}
use Rattle.shell_lines.specs.Sessions.{no_waits}
use Rattle.shell_runner.specs.States.{IsReady}
use Rattle.shell_runner.specs.Runs.{HasEnded}
use Rattle.shell_runner.specs.declared.ended.EndStatus.{EndStatus}
use Rattle.shell_runner.specs.declared.shell.Shell.{Shell}
use Rattle.tebaldi_shell.specs.Kept.{IsSafe, KeptModel, stored_of}

module _ {D : Type 0} (seen : D → List ℕ) (may_leave : D → List ℕ → Type 0) (faults : D → ℕ) (moment : D → ℕ) (left_since : D → ℕ → List ℕ → Type 0) where
  -- with what the shell begins, under the setup that the tree text is
  pub record HasOpened (capacity : ℕ) (tree : List ℕ) (disk : D) (view : SetupView) (s : KeptModel D) : Type 0 where
    pub ready : IsReady tree (stored_of s)
    pub events : s.engine.events ≡ []
    -- its rows are those that the disk has, or those of the text if it has none
    pub rows : HasTable (layout capacity (label_of view.tables)) (row_of view.rows) (row_of s.engine.store.rows) (seen disk)
    -- of a disk that a crash has left: the rows after the first k commits, at least those that were answered
    pub found : (X : Store) (H : List Event) (least : ℕ) → IsSound X.setup → Lawful X.setup H → AllTellCommits may_leave (layout capacity (label_of view.tables)) X H least disk
        → (k : ℕ) × (least ≤ k) × (k ≤ commit_count H) × ((x : Cell) → row_of s.engine.store.rows x ≡ rows_after X H k x)
    -- a crash amid the opening leaves what it left before
    pub opening : (X : Store) (H : List Event) (least : ℕ) → AllTellCommits may_leave (layout capacity (label_of view.tables)) X H least disk
        → LeavesOnly moment left_since disk s.journal.disk (TellsCommits (layout capacity (label_of view.tables)) X H least)

  -- the store was opened, and the shell has run over it
  pub record HasServed (capacity : ℕ) (tree : List ℕ) (disk : D) (left before : Option (List ℕ)) (status : EndStatus) (end : Shell (KeptModel D)) (now : Option (List ℕ)) : Type 0 where
    pub view : SetupView
    pub read : setup_of_text tree ≡ Ok view
    pub first : Shell (KeptModel D)
    pub epoch : first.epoch ≡ 1
    pub format : first.format ≡ view.format
    pub waits : first.waits ≡ no_waits
    pub opened : HasOpened capacity tree disk view first.store
    pub ended : HasEnded stored_of (IsSafe seen faults moment left_since) first left before status end now
