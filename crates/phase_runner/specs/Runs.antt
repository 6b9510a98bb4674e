-- How phases run one after another, and what is shown of them.
use Rattle.std.specs.Prelude.{◌≡◌, ℕ, ℤ, List, [], ◌∷◌, ◌++◌, None, MatchResult}
use Rattle.teb_rules.specs.declared.names.Cell.{Cell}
use Rattle.teb_rules.specs.declared.names.naming.NameBook.{NameBook}
use Rattle.teb_rules.specs.declared.history.Event.{Event}
use Rattle.teb_rules.specs.Setup.{Store}
use Rattle.engine_core.specs.EngineModel.{EngineModel}
use Rattle.teb_rules.specs.Epochs.{AreFinalRows}
use Rattle.tree_switch.specs.Courses.{Course, phases}
use Rattle.tree_switch.specs.Serial.{IsSerial}
use Rattle.script_text.specs.declared.Line.{Line}
use Rattle.script_text.specs.declared.Answered.{Answered}
use Rattle.store_setup.specs.SetupView.{SetupView}
use Rattle.command_output.specs.Shown.{Shown}
use Rattle.store_setup.specs.Stores.{store_of_view, names_of}
use Rattle.input_reader.specs.Tasks.{Task}
use Rattle.script_runner.specs.Runs.{IsReplay, IsReport}
use Rattle.phase_runner.specs.Parts.{AreParts}
use Rattle.phase_runner.specs.Inputs.{phases_of}
use Rattle.phase_runner.specs.Refusals.{phase_refusal}

abbrev pub Table : Type 0
Table = List (Cell × ℤ)

-- the setup with these starting rows
abbrev pub starting_with : Table → SetupView → SetupView
starting_with rows m = record m { rows = rows }

-- the lines are replayed over the store with this history, and the text is the report
pub record IsPhase (X : Store) (names : NameBook) (lines : List Line) (H : List Event) (text : List ℕ) : Type 0 where
  pub log : List Answered
  pub ran : IsReplay X lines log H
  pub told : IsReport X names H log text

-- a task that starts with these rows has run in this engine, and what follows from the rows that it leaves
pub record IsFollowed (rows : Table) (task : Task) (e : EngineModel) (Follows : Table → List ℕ → Type 0) (text : List ℕ) : Type 0 where
  pub left : Table
  pub front : List ℕ
  pub back : List ℕ
  pub store : e.store ≡ store_of_view (starting_with rows task.setup)
  pub phase : IsPhase (store_of_view (starting_with rows task.setup)) (names_of task.setup) task.lines e.events front
  pub final : AreFinalRows (store_of_view (starting_with rows task.setup)) e.events left
  pub follows : Follows left back
  pub joined : text ≡ front ++ back

-- the tasks have run one after another, each in an engine of its own, the first one from these rows and each later one from those that the one before it left
abbrev pub RunFrom : Table → List Task → List EngineModel → List ℕ → Type 0
RunFrom rows [] es text = (es ≡ []) × (text ≡ [])
RunFrom rows (task ∷ later) [] text = ⊥
RunFrom rows (task ∷ later) (e ∷ es) text = IsFollowed rows task e (λ left back. RunFrom left later es back) text

-- they have run in the phases of a store, and all phases together are one serial run
pub record RunAsOne (rows : Table) (tasks : List Task) (text : List ℕ) : Type 0 where
  pub course : Course
  pub ran : RunFrom rows tasks (phases course) text
  pub serial : IsSerial course

-- the first one starts with its own rows
abbrev pub RunInTurn : List Task → List ℕ → Type 0
RunInTurn [] text = text ≡ []
RunInTurn (task ∷ later) text = RunAsOne task.setup.rows (task ∷ later) text

-- the reports of all tasks
pub record AreReports (tasks : List Task) (d : Shown) : Type 0 where
  pub status : d.status ≡ 0
  pub kept : d.history ≡ None
  pub text : RunInTurn tasks d.text

-- what is shown of the bytes of an input of phases: the first fault, or the reports
pub record ArePhases (bytes : List ℕ) (d : Shown) : Type 0 where
  pub parts : List (List ℕ)
  pub parted : AreParts bytes parts
  pub shown : MatchResult (phases_of bytes parts) (λ tasks. AreReports tasks d) (λ e. d ≡ phase_refusal e)
