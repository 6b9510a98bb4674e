use Rattle.std.proofs.Common.{List, sym, subst}
use Rattle.std.proofs.lemmas.Result.{IfOk-weaker}
use Rattle.teb_rules.specs.Driver.{Ascending, Turns}
use Rattle.script_text.specs.declared.Answered.{Answered}
use Rattle.script_runner.specs.turns.Logged.{AreAnswers}
use Rattle.script_runner.specs.turns.Seats.{scripts_on}
use Rattle.script_runner.proofs.lemmas.turns.SessionOrder.{scripts_ascend}
use Rattle.script_runner.specs.Runs.{AreTurns}
use Rattle.script_runner.proofs.Runs.{turned}
use Rattle.script_runner.proofs.driving.drive.Goals as goal

pub turns-requires-clause-ascending : goal.turns-requires-clause-ascending
turns-requires-clause-ascending g c = subst (λ ss. Ascending 0 (scripts_on ss)) (sym c.in_ok-scripts.ensures) (scripts_ascend c.args.lines.now c.requires.sessions)

pub returns-clause-turns : goal.returns-clause-turns
returns-clause-turns g c =
    let X = c.args.engine.now.store in
    let H = c.turns.new.engine.events in
    let scripts = c.in_ok-scripts.scripts in
    let Tells = g.G.Log.tells c.turns.new.log c.args.engine.now.names in
    IfOk-weaker c.turns.result (λ _. AreAnswers (Turns X (scripts_on scripts)) X (scripts_on scripts) Tells H c.new-steps.result c.turns.new.steps)
    (λ _. (answers : List Answered) × Tells answers × AreTurns X c.args.lines.now answers H)
    (λ _ a. turned X c.args.lines.now scripts Tells H c.new-steps.result c.turns.new.steps c.in_ok-scripts.ensures a) c.turns.ensures.ok
