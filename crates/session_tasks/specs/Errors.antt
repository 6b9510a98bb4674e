-- Which error a run comes to.
use Rattle.std.specs.Prelude.{◌≡◌, ◌≢◌, ℕ, suc, List, All, map}
use Rattle.teb_rules.specs.history.Phases.{numbers}
use Rattle.session_server.specs.Halls.{Ghosts, Pass}
use Rattle.session_server.specs.declared.error.AskError.{AskError}
use Rattle.session_server.specs.declared.error.AskError.TheVariants as ask
use Rattle.session_tasks.specs.declared.error.RunError.{RunError}
use Rattle.session_tasks.specs.declared.error.RunError.TheVariants.{PassSpent, OutOfMemory}
use Rattle.session_tasks.specs.declared.task.Task.{Task}
use Rattle.session_tasks.specs.declared.task.Progress.TheVariants.{Failed}
use Rattle.session_tasks.specs.Tasks.{number_in}

module _ {C : Type 0} {g : Ghosts C} where
  -- what a run tells of an error that a session met, by its pass
  abbrev pub error_of : Pass C g → AskError → RunError C g
  error_of p ask.PassSpent = PassSpent p
  error_of p ask.OutOfMemory = OutOfMemory

  abbrev pub HasNotFailed : Task C g → Type 0
  HasNotFailed t = (e : AskError) → t.progress ≢ Failed e

  -- the sessions 1 to n, each with a task of which P holds, and none of which met an error
  pub record NoneFailed (P : Task C g → Type 0) (n : ℕ) : Type 0 where
    pub tasks : List (Task C g)
    pub sessions : map number_in tasks ≡ numbers n
    pub each : All (λ t. P t × HasNotFailed t) tasks

  -- session s, with a task of which P holds, met the error of which e tells
  pub record HasFailed (P : Task C g → Type 0) (s : ℕ) (e : RunError C g) : Type 0 where
    pub task : Task C g
    pub is : P task
    pub session : number_in task ≡ s
    pub error : AskError
    pub failed : task.progress ≡ Failed error
    pub told : e ≡ error_of task.pass error

  -- e tells of the error of the first session that met one
  pub record IsFirstError (P : Task C g → Type 0) (e : RunError C g) : Type 0 where
    pub passed : ℕ
    pub before : NoneFailed P passed
    pub failed : HasFailed P (suc passed) e
