use Rattle.std.proofs.Common.{◌<◌, length, sym, ◌∙◌, arith}
use Rattle.store_setup.specs.tree.Grown.{rows_of}
use Rattle.teb_rules.specs.Tree.{houses, row}
use Rattle.store_setup.proofs.lemmas.tree.Below.{find_zero, find_more, houses_at, leaf_found, leaf_none}
use Rattle.store_setup.proofs.tree.homes.leaf_of.Goals as goal

pub loop-n-init : goal.loop-n-init
loop-n-init c = find_zero (λ n. houses (row (rows_of c.args.rows.now) n) c.args.s)

pub returns-then-houses : goal.returns-then-houses
returns-then-houses c =
    let h : c.from.result < length c.args.rows.now = omega (arith, c.loop-n-test.true) in
    leaf_found c.args.rows.now c.args.s c.loop-n.n c.loop-n.invariant c.loop-n-test.true
    (houses_at c.args.rows.now c.args.s c.loop-n.n c.from.result c.index-rows-from.result c.from.ensures h c.index-rows-from.is ∙ sym c.houses.ensures ∙ c.if-houses.true)

pub loop-n-preserved : goal.loop-n-preserved
loop-n-preserved c =
    let h : c.from.result < length c.args.rows.now = omega (arith, c.loop-n-test.true) in
    find_more (λ n. houses (row (rows_of c.args.rows.now) n) c.args.s) c.loop-n.n c.loop-n.invariant
    (houses_at c.args.rows.now c.args.s c.loop-n.n c.from.result c.index-rows-from.result c.from.ensures h c.index-rows-from.is ∙ sym c.houses.ensures ∙ c.if-houses.false)

pub returns : goal.returns
returns c = leaf_none c.args.rows.now c.args.s c.loop-n.n c.loop-n.invariant (omega (arith, c.loop-n-test.false, c.loop-n.auto.n-end))
