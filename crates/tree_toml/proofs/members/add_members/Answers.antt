use Rattle.std.proofs.lemmas.Result.{err_from_is_err_and}
use Rattle.tree_toml.specs.Nodes.{member_in, members_from}
use Rattle.tree_toml.proofs.Each.{each_unless, each_more, each_end}
use Rattle.tree_toml.proofs.members.add_members.Goals as goal

pub returns-in_err-add_member : goal.returns-in_err-add_member
unfolding members_from
returns-in_err-add_member c =
    let p = err_from_is_err_and c.from_residual.result c.from_residual.ensures.1 in
    rw (p.1, p.2) (each_unless (member_in c.args.place c.args.types.now) _ _ _ _ _ _ _ c.loop-value.invariant c.value-item.is c.loop-value-test.true c.in_err-add_member.ensures)

pub loop-value-preserved : goal.loop-value-preserved
loop-value-preserved c = each_more (member_in c.args.place c.args.types.now) _ _ _ _ _ _ _ c.loop-value.invariant c.value-item.is c.loop-value-test.true c.in_ok-add_member.ensures

pub returns : goal.returns
unfolding members_from
returns c = each_end (member_in c.args.place c.args.types.now) _ _ _ _ _ c.loop-value.invariant c.loop-value-test.false
