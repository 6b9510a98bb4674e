-- Tasks, and lists of them.
use Rattle.std.specs.Prelude.{◌≡◌, ℕ, Bool, true, false, Result, Ok, Err, List, Option, Some, None, All, map}
use Rattle.teb_rules.specs.Scripts.{IsWalk}
use Rattle.script_walk.specs.ScriptStates.{requests_on}
use Rattle.session_server.specs.Halls.{Ghosts, Hall}
use Rattle.session_server.specs.declared.pass.TheConstants.{MOST_ASKS}
use Rattle.session_server.specs.declared.error.AskError.{AskError}
use Rattle.session_server.specs.declared.error.AskError.TheVariants.{PassSpent}
use Rattle.session_server.specs.Passes.{IsPassOf, IsNew, mine}
use Rattle.session_tasks.specs.Walks.{IsUnderWay}
use Rattle.session_tasks.specs.Scripted.{Scripted, place_in, lines_at}
use Rattle.session_tasks.specs.declared.task.Task.{Task}
use Rattle.session_tasks.specs.declared.task.Progress.{Progress}
use Rattle.session_tasks.specs.declared.task.Progress.TheVariants.{Open, Through, Failed}

-- how far a session has come before its first request, by the place of its script
abbrev pub progress_at : Option ℕ → Progress
progress_at None = Through
progress_at (Some i) = Open

-- how far a session has come, by what serving it answered
abbrev pub progress_after : Result Bool AskError → Progress
progress_after (Ok true) = Through
progress_after (Ok false) = Open
progress_after (Err e) = Failed e

module _ {C : Type 0} {g : Ghosts C} where
  abbrev pub number_in : Task C g → ℕ
  number_in t = t.pass.session.0

  -- a session of this hall on its way along its script
  pub record IsTask (h : Hall C g) (scripts : Scripted) (t : Task C g) : Type 0 where
    pub place : t.place ≡ place_in scripts t.pass.session.0
    pub hall : IsPassOf h t.pass
    pub way : IsUnderWay (lines_at scripts t.place) (mine t.pass) t.walker
    pub through : t.progress ≡ Through → IsWalk (requests_on (lines_at scripts t.place)) (mine t.pass)
    pub spent : t.progress ≡ Failed PassSpent → t.pass.asks ≡ MOST_ASKS
    pub idle : t.place ≡ None → IsNew h t.pass × (t.progress ≡ Through)

  -- the tasks of these sessions, one after the other
  pub record AreTasks (h : Hall C g) (scripts : Scripted) (sessions : List ℕ) (tasks : List (Task C g)) : Type 0 where
    pub numbers : map number_in tasks ≡ sessions
    pub each : All (IsTask h scripts) tasks
