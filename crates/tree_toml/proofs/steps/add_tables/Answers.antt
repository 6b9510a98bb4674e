use Rattle.std.proofs.lemmas.Result.{err_from_is_err_and}
use Rattle.tree_toml.specs.Types.{step_table_at}
use Rattle.tree_toml.proofs.Each.{each_unless, each_more, each_end}
use Rattle.tree_toml.proofs.steps.add_tables.Goals as goal

pub returns-in_err-add_table : goal.returns-in_err-add_table
returns-in_err-add_table c =
    let p = err_from_is_err_and c.from_residual.result c.from_residual.ensures.1 in
    rw (p.1, p.2) (each_unless (step_table_at c.args.place c.args.tables.now) _ _ _ _ _ _ _ c.loop-value.invariant c.value-item.is c.loop-value-test.true c.in_err-add_table.ensures)

pub loop-value-preserved : goal.loop-value-preserved
loop-value-preserved c = each_more (step_table_at c.args.place c.args.tables.now) _ _ _ _ _ _ _ c.loop-value.invariant c.value-item.is c.loop-value-test.true c.in_ok-add_table.ensures

pub returns : goal.returns
returns c = each_end (step_table_at c.args.place c.args.tables.now) _ _ _ _ _ c.loop-value.invariant c.loop-value-test.false
