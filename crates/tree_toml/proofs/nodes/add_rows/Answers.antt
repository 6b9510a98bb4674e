use Rattle.std.proofs.Common.{arith}
use Rattle.std.proofs.lemmas.Result.{err_from_is_err_and}
use Rattle.tree_toml.specs.Nodes.{node_in, node_rows}
use Rattle.tree_toml.proofs.Each.{each_unless, each_more, each_end}
use Rattle.tree_toml.proofs.nodes.add_rows.Goals as goal

pub returns-in_err-add_row : goal.returns-in_err-add_row
unfolding node_rows
returns-in_err-add_row c =
    let p = err_from_is_err_and c.from_residual.result c.from_residual.ensures.1 in
    rw (p.1, p.2) (each_unless (node_in c.args.types.now c.args.nodes.now) _ _ _ _ _ _ _ c.loop-value.invariant.rest c.value-item.is c.loop-value-test.true c.in_err-add_row.ensures)

pub loop-value-preserved : goal.loop-value-preserved
loop-value-preserved c = record {
  count = omega arith;
  rest = each_more (node_in c.args.types.now c.args.nodes.now) _ _ _ _ _ _ _ c.loop-value.invariant.rest c.value-item.is c.loop-value-test.true c.in_ok-add_row.ensures;
}

pub returns : goal.returns
unfolding node_rows
returns c = each_end (node_in c.args.types.now c.args.nodes.now) _ _ _ _ _ c.loop-value.invariant.rest c.loop-value-test.false
