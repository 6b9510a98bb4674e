use Rattle.std.proofs.Common.{◌∙◌}
use Rattle.phase_runner.proofs.Running.{from_rows, past_of, phase_run, started_names, started_store}
use Rattle.phase_runner.proofs.phase.next_phase.Goals as goal

pub returns-clause-past : goal.returns-clause-past
returns-clause-past g c = past_of c.run_present.result _ _ c.run_present.ensures.past c.in_ok-switch.ensures.past

pub returns-clause-run : goal.returns-clause-run
returns-clause-run g c =
    let e = c.switch.new.phases.present in
    let s = c.into_parts-setup.result.0 in
    let is = c.into_parts-setup.ensures.setup in
    let started = c.in_ok-switch.ensures.present in
    from_rows c.args.task c.args.phases.present e.store.rows c.args.text.now.items c.run_present.new.text.items c.run_present.result started.rows
    (phase_run e.store.rows c.args.task e c.deref.result.now c.args.text.now.items c.run_present.new.text.items c.run_present.result
    (started_store s c.args.task.setup is c.args.phases.present e started) (started_names s c.args.task.setup is c.args.phases.present e started)
    (c.deref.ensures.value ∙ c.into_parts-setup.ensures.lines.0) c.run_present.ensures.store c.run_present.ensures.names c.run_present.ensures.drained c.run_present.ensures.run)
