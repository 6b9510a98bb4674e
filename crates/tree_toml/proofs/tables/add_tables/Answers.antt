use Rattle.std.proofs.Common.{arith}
use Rattle.std.proofs.lemmas.Result.{err_from_is_err_and}
use Rattle.tree_toml.specs.Tables.{table_in, tables_in}
use Rattle.tree_toml.proofs.Each.{each_unless, each_more, each_end}
use Rattle.tree_toml.proofs.tables.add_tables.Goals as goal

pub returns-in_err-add_table : goal.returns-in_err-add_table
unfolding tables_in
returns-in_err-add_table c =
    let p = err_from_is_err_and c.from_residual.result c.from_residual.ensures.1 in record {
      tables = rw (p.1, p.2) (each_unless table_in _ _ _ _ _ _ _ c.loop-value.invariant.rest c.value-item.is c.loop-value-test.true c.in_err-add_table.ensures.name);
      count = rw p.1 tt;
    }

pub loop-value-preserved : goal.loop-value-preserved
loop-value-preserved c = record {
  count = omega arith;
  names = omega (arith, c.in_ok-add_table.ensures.count);
  rest = each_more table_in _ _ _ _ _ _ _ c.loop-value.invariant.rest c.value-item.is c.loop-value-test.true c.in_ok-add_table.ensures.name;
}

pub returns : goal.returns
unfolding tables_in
returns c = record {
  tables = each_end table_in _ _ _ _ _ c.loop-value.invariant.rest c.loop-value-test.false;
  count = omega arith;
}
