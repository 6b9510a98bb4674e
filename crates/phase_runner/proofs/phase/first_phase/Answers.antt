use Rattle.std.proofs.Common.{◌∙◌, ap}
use Rattle.engine_core.specs.EngineModel.{EngineModel}
use Rattle.store_setup.specs.SetupView.{SetupView}
use Rattle.store_setup.specs.Stores.{store_of_view, names_of}
use Rattle.phase_runner.proofs.Running.{past_of, phase_run}
use Rattle.phase_runner.proofs.phase.first_phase.Goals as goal

pub returns-clause-past : goal.returns-clause-past
returns-clause-past g c = past_of c.run_present.result _ _ c.run_present.ensures.past c.new-2.ensures.past

pub returns-clause-run : goal.returns-clause-run
returns-clause-run g c =
    let e = c.new-2.result.present in
    let is = c.into_parts-setup.ensures.setup in
    phase_run c.args.task.setup.rows c.args.task e c.deref.result.now c.args.text.now.items c.run_present.new.text.items c.run_present.result
    (ap (λ (d : EngineModel). d.store) c.new-2.ensures.present ∙ c.in_ok-engine.ensures.store ∙ ap (λ (m : SetupView). store_of_view m) is)
    (ap (λ (d : EngineModel). d.names) c.new-2.ensures.present ∙ c.in_ok-engine.ensures.names ∙ ap (λ (m : SetupView). names_of m) is)
    (c.deref.ensures.value ∙ c.into_parts-setup.ensures.lines.0) c.run_present.ensures.store c.run_present.ensures.names c.run_present.ensures.drained c.run_present.ensures.run
