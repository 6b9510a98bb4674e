use Rattle.std.proofs.Common.{◌≡◌, subst, rules}
use Rattle.session_server.specs.Passes.{base_of}
use Rattle.session_tasks.specs.Errors.{IsFirstError}
use Rattle.session_tasks.specs.Served.{IsCause}
use Rattle.session_tasks.specs.Tasks.{IsTask}
use Rattle.session_tasks.proofs.Distinct.{ascending_distinct}
use Rattle.hall_runner.proofs.Spending.{spent_on}
use Rattle.hall_runner.proofs.serving.serve_scripts.Goals as goal

pub serve_sessions-requires-clause-scripts : goal.serve_sessions-requires-clause-scripts
serve_sessions-requires-clause-scripts g c κs within = ascending_distinct 0 c.args.scripts.now c.requires.ascending

pub returns-in-Err-PassSpent-clause-served : goal.returns-in-Err-PassSpent-clause-served
returns-in-Err-PassSpent-clause-served g c =
    let h = c.in-Ok.hall in
    let x = c.args.scripts.now in
    let store : (base_of h).store ≡ c.args.engine.store = search rules in
    rw c.in-Err-PassSpent.pass-is
    (spent_on c.args.engine.store h x c.in-Err-PassSpent.pass store (subst (IsCause h x) c.in-Err-PassSpent.field-0-is (c.in-Err-PassSpent.ensures {u = tt}).cause)
    (subst (IsFirstError (IsTask h x)) c.in-Err-PassSpent.field-0-is ((c.in-Err-PassSpent.ensures {u = tt}).first (λ none. cc))))
