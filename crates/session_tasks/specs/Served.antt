-- What a run of several threads leaves of a pass.
use Rattle.std.specs.Prelude.{◌≡◌, ◌≢◌, ℕ, List, Some, slice_get}
use Rattle.teb_rules.specs.Scripts.{IsWay, IsWalk}
use Rattle.script_text.specs.declared.Line.{Line}
use Rattle.script_walk.specs.ScriptStates.{requests_on}
use Rattle.session_server.specs.Halls.{Ghosts, Hall, Pass}
use Rattle.session_server.specs.declared.pass.TheConstants.{MOST_ASKS}
use Rattle.session_tasks.specs.declared.error.RunError.{RunError}
use Rattle.session_tasks.specs.declared.error.RunError.TheVariants.{PassSpent, OutOfMemory}
use Rattle.session_server.specs.Passes.{IsPassOf, IsNew, mine}
use Rattle.session_tasks.specs.Scripted.{Scripted}

module _ {C : Type 0} {g : Ghosts C} where
  -- a pass of this hall. What it has asked and was answered is a whole walk along the script of its session; where the session has no script, it has asked nothing
  pub record IsServed (h : Hall C g) (scripts : Scripted) (p : Pass C g) : Type 0 where
    pub hall : IsPassOf h p
    pub walk : (i : ℕ) (lines : List Line) → slice_get scripts i ≡ Some (p.session, lines) → IsWalk (requests_on lines) (mine p)
    pub idle : ((i : ℕ) (lines : List Line) → slice_get scripts i ≢ Some (p.session, lines)) → IsNew h p

  -- a pass of this hall that has asked MOST_ASKS times, and has come some way along the script of its session
  pub record IsSpent (h : Hall C g) (scripts : Scripted) (p : Pass C g) : Type 0 where
    pub hall : IsPassOf h p
    pub asks : p.asks ≡ MOST_ASKS
    pub place : ℕ
    pub lines : List Line
    pub script : slice_get scripts place ≡ Some (p.session, lines)
    pub way : IsWay (requests_on lines) (mine p)

  -- why a run came to nothing. It may run out of memory at any time
  abbrev pub IsCause : Hall C g → Scripted → RunError C g → Type 0
  IsCause h scripts (PassSpent p) = IsSpent h scripts p
  IsCause h scripts OutOfMemory = Unit {0}
