use Rattle.std.proofs.Common.{arith}
use Rattle.std.proofs.lemmas.Result.{err_from_is_err_and}
use Rattle.tree_toml.specs.Types.{type_in, types_in}
use Rattle.tree_toml.proofs.Each.{each_unless, each_more, each_end}
use Rattle.tree_toml.proofs.types.add_types.Goals as goal

pub returns-in_err-add_type : goal.returns-in_err-add_type
unfolding types_in
returns-in_err-add_type c =
    let p = err_from_is_err_and c.from_residual.result c.from_residual.ensures.1 in record {
      types = rw (p.1, p.2) (each_unless (type_in c.args.tables.now) _ _ _ _ _ _ _ c.loop-value.invariant.rest c.value-item.is c.loop-value-test.true c.in_err-add_type.ensures.types);
      few = rw p.1 tt;
    }

pub loop-value-preserved : goal.loop-value-preserved
loop-value-preserved c = record {
  count = omega arith;
  names = omega (arith, c.in_ok-add_type.ensures.count);
  rest = each_more (type_in c.args.tables.now) _ _ _ _ _ _ _ c.loop-value.invariant.rest c.value-item.is c.loop-value-test.true c.in_ok-add_type.ensures.types;
}

pub returns : goal.returns
unfolding types_in
returns c = record {
  types = each_end (type_in c.args.tables.now) _ _ _ _ _ c.loop-value.invariant.rest c.loop-value-test.false;
  few = omega arith;
}
