use Rattle.std.proofs.lemmas.Result.{err_from_is_err_and}
use Rattle.tree_toml.specs.Types.{step_in, steps_from}
use Rattle.tree_toml.proofs.Each.{each_unless, each_more, each_end}
use Rattle.tree_toml.proofs.steps.add_steps.Goals as goal

pub returns-in_err-add_step : goal.returns-in_err-add_step
unfolding steps_from
returns-in_err-add_step c =
    let p = err_from_is_err_and c.from_residual.result c.from_residual.ensures.1 in
    rw (p.1, p.2) (each_unless (step_in c.args.place c.args.tables.now) _ _ _ _ _ _ _ c.loop-value.invariant c.value-item.is c.loop-value-test.true c.in_err-add_step.ensures)

pub loop-value-preserved : goal.loop-value-preserved
loop-value-preserved c = each_more (step_in c.args.place c.args.tables.now) _ _ _ _ _ _ _ c.loop-value.invariant c.value-item.is c.loop-value-test.true c.in_ok-add_step.ensures

pub returns : goal.returns
unfolding steps_from
returns c = each_end (step_in c.args.place c.args.tables.now) _ _ _ _ _ c.loop-value.invariant c.loop-value-test.false
