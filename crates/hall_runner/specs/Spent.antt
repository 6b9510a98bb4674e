-- What a run by several threads comes to.
use Rattle.std.specs.Prelude.{◌≡◌, ℕ, List, Some, slice_get}
use Rattle.teb_rules.specs.declared.names.Session.{Session}
use Rattle.teb_rules.specs.Setup.{Store}
use Rattle.teb_rules.specs.Run.{IsLegal}
use Rattle.teb_rules.specs.Scripts.{IsWay}
use Rattle.session_server.specs.Halls.{Ghosts, Hall, Pass}
use Rattle.script_text.specs.declared.Line.{Line}
use Rattle.script_walk.specs.ScriptStates.{requests_on}
use Rattle.session_server.specs.declared.pass.TheConstants.{MOST_ASKS}
use Rattle.session_server.specs.Passes.{base_of, mine, seen}
use Rattle.session_tasks.specs.declared.error.RunError.TheVariants.{PassSpent}
use Rattle.session_tasks.specs.Errors.{IsFirstError}
use Rattle.session_tasks.specs.Tasks.{IsTask}

-- The pass has asked MOST_ASKS times. What it has seen is a legal run of the store, and its own entries are a way along the script of its session. In some
-- hall over the store there are tasks whose first error this is.
pub record IsSpentOn {C : Type 0} {g : Ghosts C} (X : Store) (scripts : List (Session × List Line)) (p : Pass C g) : Type 0 where
  pub legal : IsLegal X (seen p)
  pub asks : p.asks ≡ MOST_ASKS
  pub place : ℕ
  pub lines : List Line
  pub script : slice_get scripts place ≡ Some (p.session, lines)
  pub way : IsWay (requests_on lines) (mine p)
  pub hall : Hall C g
  pub over : (base_of hall).store ≡ X
  pub first : IsFirstError (IsTask hall scripts) (PassSpent p)
