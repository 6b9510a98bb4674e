use Rattle.std.proofs.Common.{◌≡◌, ap, subst, sym}
use Rattle.command_output.specs.Shown.{Shown}
use Rattle.input_reader.specs.Tasks.{Task}
use Rattle.script_runner.specs.Runs.{AreTurns, IsRun, IsSerialized}
use Rattle.script_runner.proofs.Runs.{is_run, is_serialized}
use Rattle.store_setup.specs.SetupView.{SetupView}
use Rattle.shop_load.specs.Summaries.{IsSummary}
use Rattle.shop_load.proofs.load.run_load.Goals as goal

pub returns-clause-shown : goal.returns-clause-shown
returns-clause-shown c =
    let run = c.in_ok-engine.ensures in
    let n = c.args.number in
    let size = c.args.size in
    subst (λ (task : Task). IsRun AreTurns (λ X names H log text. IsSummary n size X H log text) task c.output_of.result) c.in_ok-load_input.ensures
    (is_run AreTurns (λ X names H log text. IsSummary n size X H log text) _ _ c.in_ok-engine.engine c.output_of.result c.in_ok-text.text.items run (c.in_ok-text.ensures run.answers (sym run.told))
    c.output_of.ensures)

pub returns-clause-serialized : goal.returns-clause-serialized
returns-clause-serialized c =
    subst (λ (task : Task). IsSerialized (λ (m : SetupView). task.setup ≡ m) c.output_of.result.history) c.in_ok-load_input.ensures
    (is_serialized _ _ _ _ _ _ c.in_ok-engine.ensures.over (ap (λ (o : Shown). o.history) c.output_of.ensures))
