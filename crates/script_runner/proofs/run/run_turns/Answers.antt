use Rattle.std.proofs.Common.{◌≡◌, ap, subst}
use Rattle.command_output.specs.Shown.{Shown}
use Rattle.answer_log.specs.Telling.{HasLines}
use Rattle.input_reader.specs.Tasks.{Task}
use Rattle.script_runner.specs.Runs.{AreTurns, IsReport, IsRun, IsSerialized}
use Rattle.script_runner.proofs.Runs.{is_run, is_serialized}
use Rattle.script_runner.proofs.run.run_turns.Goals as goal

pub report_of-requires : goal.report_of-requires
report_of-requires c = (c.no_replies-replies.new.input.setup, c.in_ok-engine.ensures.answers, c.in_ok-engine.ensures.over)

pub returns-clause-shown : goal.returns-clause-shown
returns-clause-shown c =
    let task = c.no_replies-replies.new.input in
    let run = c.in_ok-engine.ensures in
    subst (λ (t : Task). IsRun AreTurns IsReport t c.output_of.result) c.no_replies-replies.ensures.same
    (is_run AreTurns IsReport (HasLines c.in_turns.new.log) task c.in_ok-engine.engine c.output_of.result c.in_ok-text.text.items run (c.in_ok-text.ensures task.setup run.answers run.over run.told)
    c.output_of.ensures)

pub returns-clause-serialized : goal.returns-clause-serialized
returns-clause-serialized c =
    subst (λ (t : Task). IsSerialized (λ m. t.setup ≡ m) c.output_of.result.history) c.no_replies-replies.ensures.same
    (is_serialized c.no_replies-replies.new.input.setup _ _ _ _ _ c.in_ok-engine.ensures.over (ap (λ (o : Shown). o.history) c.output_of.ensures))
