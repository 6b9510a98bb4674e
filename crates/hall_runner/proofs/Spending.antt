-- What a pass of a hall has seen is a run of the store that the hall was made over.
use Rattle.std.proofs.Common.{◌≡◌, List, subst}
use Rattle.teb_rules.specs.declared.names.Session.{Session}
use Rattle.teb_rules.specs.Setup.{Store}
use Rattle.teb_rules.specs.Run.{IsLegal}
use Rattle.session_server.specs.Halls.{Ghosts, Hall, Pass}
use Rattle.script_text.specs.declared.Line.{Line}
use Rattle.session_server.specs.Passes.{base_of, seen}
use Rattle.session_tasks.specs.Served.{IsSpent}
use Rattle.session_tasks.specs.declared.error.RunError.TheVariants.{PassSpent}
use Rattle.session_tasks.specs.Errors.{IsFirstError}
use Rattle.session_tasks.specs.Tasks.{IsTask}
use Rattle.hall_runner.specs.Spent.{IsSpentOn}

pub spent_on : {C : Type 0} {g : Ghosts C} (X : Store) (h : Hall C g) (scripts : List (Session × List Line)) (p : Pass C g) → (base_of h).store ≡ X → IsSpent h scripts p
    → IsFirstError (IsTask h scripts) (PassSpent p) → IsSpentOn X scripts p
spent_on X h scripts p store s first = record {
  legal = subst (λ (Y : Store). IsLegal Y (seen p)) store (p.knows.legal (base_of h) s.hall.1);
  asks = s.asks;
  place = s.place;
  lines = s.lines;
  script = s.script;
  way = s.way;
  hall = h;
  over = store;
  first = first;
}
