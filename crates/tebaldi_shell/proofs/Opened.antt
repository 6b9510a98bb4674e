-- The state with which the shell begins.
use Rattle.std.proofs.Common.{◌≡◌, ℕ, ◌≤◌, List, [], Ok, false}
use Rattle.teb_rules.specs.declared.names.Cell.{Cell}
use Rattle.teb_rules.specs.names.Rows.{row_of}
use Rattle.teb_rules.specs.declared.history.Event.{Event}
use Rattle.teb_rules.specs.Setup.{Store}
use Rattle.teb_rules.specs.Accepted.{IsSound}
use Rattle.teb_rules.specs.laws.Lawful.{Lawful}
use Rattle.store_setup.specs.declared.Setup.{Setup}
use Rattle.store_setup.specs.SetupView.{setup_view}
use Rattle.store_setup.specs.Sound.{IsNamed}
use Rattle.tree_toml.specs.SetupText.{setup_of_text}
use Rattle.crash_disk.specs.Disk.{LeavesOnly}
use Rattle.commit_laws.specs.Commits.{commit_count, rows_after}
use Rattle.epoch_journal.specs.Layout.{layout}
use Rattle.engine_store.specs.Label.{label_of}
use Rattle.engine_store.specs.Opening.{HasTable, IsBeginning, layout_of}
use Rattle.engine_store.specs.Telling.{AllTellCommits, TellsCommits}
use Rattle.tebaldi_shell.specs.Kept.{KeptModel}
use Rattle.tebaldi_shell.specs.Serving.{HasOpened}

pub opens : {D : Type 0} (seen : D → List ℕ) (may_leave : D → List ℕ → Type 0) (faults : D → ℕ) (moment : D → ℕ) (left_since : D → ℕ → List ℕ → Type 0) (capacity : ℕ) (tree : List ℕ) (disk : D)
    (setup : Setup) (s : KeptModel D)
    → setup_of_text tree ≡ Ok (setup_view setup) → IsNamed (setup_view setup) → IsBeginning setup s.engine → s.journal.stopped ≡ false
    → HasTable (layout_of capacity setup) (row_of setup.rows) (row_of s.engine.store.rows) (seen disk)
    → ((X : Store) (H : List Event) (least : ℕ) → IsSound X.setup → Lawful X.setup H → AllTellCommits may_leave (layout_of capacity setup) X H least disk
    → (k : ℕ) × (least ≤ k) × (k ≤ commit_count H) × ((x : Cell) → row_of s.engine.store.rows x ≡ rows_after X H k x))
    → ((X : Store) (H : List Event) (least : ℕ) → AllTellCommits may_leave (layout_of capacity setup) X H least disk → LeavesOnly moment left_since disk s.journal.disk
    (TellsCommits (layout_of capacity setup) X H least))
    → HasOpened seen may_leave faults moment left_since capacity tree disk (setup_view setup) s
opens seen may_leave faults moment left_since capacity tree disk setup s read named begun running rows found opening = record {
  ready = record {
    of_tree = record { view = setup_view setup; read = read; setup = begun.setup; tables = begun.tables; names = begun.names; nodes = named };
    running = running;
  };
  events = begun.events;
  rows = rows;
  found = found;
  opening = opening;
}
