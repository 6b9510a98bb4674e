-- What one phase comes to, and which tasks may follow.
use Rattle.std.specs.Prelude.{◌≡◌, ℕ, List, [], ◌∷◌, ◌++◌}
use Rattle.engine_core.specs.EngineModel.{EngineModel}
use Rattle.teb_rules.specs.Epochs.{IsDrained}
use Rattle.store_setup.specs.Stores.{store_of_view, names_of}
use Rattle.input_reader.specs.Tasks.{Task}
use Rattle.phase_runner.specs.Runs.{Table, starting_with, IsPhase}

-- the engine has run the task from these rows to its end, and its report was put behind a text
pub record HasRun (rows : Table) (task : Task) (e : EngineModel) (before now : List ℕ) : Type 0 where
  pub store : e.store ≡ store_of_view (starting_with rows task.setup)
  pub names : e.names ≡ names_of task.setup
  pub drained : IsDrained e.events
  pub front : List ℕ
  pub phase : IsPhase (store_of_view (starting_with rows task.setup)) (names_of task.setup) task.lines e.events front
  pub joined : now ≡ before ++ front

-- each of these tasks is over tables of these names, and has no rows of its own
abbrev pub AllFollow : List (List ℕ) → List Task → Type 0
AllFollow tables [] = Unit {0}
AllFollow tables (task ∷ later) = (task.setup.tables ≡ tables) × (task.setup.rows ≡ []) × AllFollow tables later

-- such are the tasks behind the first
abbrev pub AreFollowing : List Task → Type 0
AreFollowing [] = Unit {0}
AreFollowing (task ∷ later) = AllFollow task.setup.tables later
