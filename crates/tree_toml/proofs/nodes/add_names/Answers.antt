use Rattle.std.proofs.Common.{arith}
use Rattle.std.proofs.lemmas.Result.{err_from_is_err_and}
use Rattle.tree_toml.specs.Nodes.{node_name, node_names}
use Rattle.tree_toml.proofs.Each.{each_unless, each_more, each_end}
use Rattle.tree_toml.proofs.nodes.add_names.Goals as goal

pub returns-in_err-add_name : goal.returns-in_err-add_name
unfolding node_names
returns-in_err-add_name c =
    let p = err_from_is_err_and c.from_residual.result c.from_residual.ensures.1 in
    rw (p.1, p.2) (each_unless (node_name c.args.format) _ _ _ _ _ _ _ c.loop-value.invariant.rest c.value-item.is c.loop-value-test.true c.in_err-add_name.ensures.name)

pub loop-value-preserved : goal.loop-value-preserved
loop-value-preserved c = record {
  count = omega arith;
  names = omega (arith, c.in_ok-add_name.ensures.count);
  rest = each_more (node_name c.args.format) _ _ _ _ _ _ _ c.loop-value.invariant.rest c.value-item.is c.loop-value-test.true c.in_ok-add_name.ensures.name;
}

pub returns : goal.returns
unfolding node_names
returns c = each_end (node_name c.args.format) _ _ _ _ _ c.loop-value.invariant.rest c.loop-value-test.false
