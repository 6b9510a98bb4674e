-- How the lines of an input run over its store, and what is shown of a run.
use Rattle.std.specs.Prelude.{◌≡◌, ℕ, ◌≤◌, List, [], length, Option, Some, IfSome}
use Rattle.std.specs.List.{flat_map}
use Rattle.teb_rules.specs.declared.names.naming.NameBook.{NameBook}
use Rattle.teb_rules.specs.declared.history.Event.{Event}
use Rattle.teb_rules.specs.Setup.{Store}
use Rattle.teb_rules.specs.Run.{history_after}
use Rattle.teb_rules.specs.Ranks.{serial_order}
use Rattle.teb_rules.specs.Serializes.{Serializes}
use Rattle.teb_rules.specs.Driver.{Turns}
use Rattle.driver_laws.specs.Laws.{most_requests}
use Rattle.engine_core.specs.EngineModel.{EngineModel}
use Rattle.script_text.specs.declared.Line.{Line}
use Rattle.script_text.specs.declared.Answered.{Answered}
use Rattle.script_text.specs.Scripts.{scripts_of}
use Rattle.script_text.specs.Texts.{reply_text}
use Rattle.printed_run.specs.Printed.{IsReportAfter}
use Rattle.script_runner.specs.replay.Logs.{Requests, log_of, replayed}
use Rattle.script_runner.specs.turns.Seats.{scripts_on}
use Rattle.script_runner.specs.turns.Logged.{IsOf}
use Rattle.store_setup.specs.SetupView.{SetupView}
use Rattle.store_setup.specs.Sound.{IsWhole, IsNamed}
use Rattle.command_output.specs.Shown.{Shown}
use Rattle.store_setup.specs.Stores.{store_of_view, names_of}
use Rattle.input_reader.specs.Tasks.{Task}

-- which replies and which history come of these lines, over a store
abbrev pub Run : Type 1
Run = Store → List Line → List Answered → List Event → Type 0

-- each line is asked once, in order, and then End for each session that holds a transaction
pub record IsReplay (X : Store) (lines : List Line) (log : List Answered) (H : List Event) : Type 0 where
  pub replies : log ≡ log_of X [] (replayed X [] lines)
  pub events : H ≡ history_after X [] (replayed X [] lines)

-- the scripts of the sessions are driven in turns, until all are worked through, within the bound on requests
pub record AreTurns (X : Store) (lines : List Line) (log : List Answered) (H : List Event) : Type 0 where
  pub turns : IsOf (Turns X (scripts_on (scripts_of lines))) X log H
  pub few : length log ≤ most_requests (scripts_on (scripts_of lines))

-- some requests to the store of a setup have these replies and this history
pub record IsRunOver (m : SetupView) (X : Store) (names : NameBook) (log : List Answered) (H : List Event) : Type 0 where
  pub whole : IsWhole m
  pub nodes : IsNamed m
  pub store : X ≡ store_of_view m
  pub named : names ≡ names_of m
  pub asked : Requests
  pub replies : log ≡ log_of X [] asked
  pub events : H ≡ history_after X [] asked

-- a log tells the replies of a run of the lines over the setup's store, at the end of which an engine stands so
pub record HasRun (R : Run) (Tells : NameBook → List Answered → Type 0) (task : Task) (e : EngineModel) : Type 0 where
  pub answers : List Answered
  pub told : Tells e.names answers
  pub ran : R (store_of_view task.setup) task.lines answers e.events
  pub over : IsRunOver task.setup e.store e.names answers e.events

-- what a text says of the replies and the history of a run
abbrev pub Says : Type 1
Says = Store → NameBook → List Event → List Answered → List ℕ → Type 0

-- the replies, the serial order and the final rows
abbrev pub IsReport : Says
IsReport X names H log text = IsReportAfter (flat_map (reply_text names) log) X names H text

-- what is shown is the history of a run of the lines over the setup's store, and the text that says so
pub record IsRun (R : Run) (S : Says) (task : Task) (d : Shown) : Type 0 where
  pub log : List Answered
  pub history : List Event
  pub ran : R (store_of_view task.setup) task.lines log history
  pub status : d.status ≡ 0
  pub kept : d.history ≡ Some history
  pub text : S (store_of_view task.setup) (names_of task.setup) history log d.text

-- the history, where there is one, is serialized by its serial order, over the store of a setup of which this is so
abbrev pub IsSerialized : (SetupView → Type 0) → Option (List Event) → Type 0
IsSerialized Is history = IfSome history (λ H. (m : SetupView) × Is m × Serializes (store_of_view m) H (serial_order (store_of_view m).setup H))
