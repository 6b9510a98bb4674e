use Rattle.std.proofs.Common.{◌≡◌, false, arith, rules, sym, ◌∙◌}
use Rattle.tree_guarantees.specs.Conditions.{has_batches_for}
use Rattle.tree_guarantees.proofs.Leaves.{all_here, all_zero, one_missing}
use Rattle.tree_guarantees.proofs.types.leaves_keep_batches.Goals as goal

pub loop-n-init : goal.loop-n-init
loop-n-init c = all_zero (has_batches_for c.args.tree.now.rows c.args.kind.0)

pub returns-then-not-keeps_batches_for : goal.returns-then-not-keeps_batches_for
returns-then-not-keeps_batches_for c =
    let missing : c.keeps_batches_for.result ≡ false = search rules in
    one_missing (has_batches_for c.args.tree.now.rows c.args.kind.0) c.loop-n.n _ (omega (arith, c.loop-n-test.true, c.len-n-end.ensures.count)) (sym c.keeps_batches_for.ensures ∙ missing)

pub returns : goal.returns
returns c = all_here (has_batches_for c.args.tree.now.rows c.args.kind.0) c.loop-n.n _ (omega (arith, c.loop-n-test.false, c.loop-n.auto.n-end, c.len-n-end.ensures.count)) c.loop-n.invariant
