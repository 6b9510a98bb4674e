use Rattle.std.proofs.Common.{◌≡◌, ◌≤◌, length, sym, ◌∙◌, arith}
use Rattle.tree_switch.proofs.SameNames.{all_same, differ_at, same_so_far}
use Rattle.tree_switch.proofs.names.same_names.Goals as goal

pub returns-then-not-same_text : goal.returns-then-not-same_text
returns-then-not-same_text c =
    differ_at c.args.some.now c.args.other.now c.loop-i.i c.name.result.now c.name-in-loop-i.result.now c.name.ensures.name c.name-in-loop-i.ensures.name
    (sym c.same_text.ensures ∙ c.if-not-same_text.true)

pub loop-i-preserved : goal.loop-i-preserved
loop-i-preserved c =
    same_so_far c.args.some.now c.args.other.now c.loop-i.i c.name.result.now c.name-in-loop-i.result.now c.name.ensures.name c.name-in-loop-i.ensures.name
    (sym c.same_text.ensures ∙ c.if-not-same_text.false) c.loop-i.invariant

pub returns : goal.returns
returns c =
    let lengths : length c.args.some.now ≡ length c.args.other.now = sym c.len.ensures.count ∙ c.if-len.false ∙ c.len-2.ensures.count in
    let end : length c.args.some.now ≤ c.loop-i.i = omega (arith, c.loop-i-test.false, c.len-i-end.ensures.count) in
    all_same c.args.some.now c.args.other.now lengths (λ k h. c.loop-i.invariant k (omega (arith, h, end)))
