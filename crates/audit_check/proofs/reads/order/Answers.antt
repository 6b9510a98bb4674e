use Rattle.std.proofs.Common.{◌≡◌, ◌∙◌, ◌+◌, ◌-◌, ◌<◌, length, take, sym, ap, arith}
use Rattle.audit_check.specs.Tables.{order_in}
use Rattle.audit_check.specs.Views.{views}
use Rattle.audit_check.proofs.ReadSteps.{order_here, order_gone, no_order}
use Rattle.audit_check.proofs.reads.order.Goals as goal

pub returns-in-Order : goal.returns-in-Order
returns-in-Order c =
    let lines = c.args.lines.now in
    let i = c.loop-i.i in
    let within : length lines - 1 - i < length lines = omega (arith, c.loop-i-test.true) in
    let next : length lines - i ≡ length lines - 1 - i + 1 = omega (arith, c.loop-i-test.true) in
    c.as_slice.ensures.value ∙ sym (order_here lines (length lines - 1 - i) (length lines - i) c.index-lines-lines.result within c.index-lines-lines.is next c.in-Order.txns c.in-Order.is)
    ∙ c.loop-i.invariant

pub loop-i-preserved : goal.loop-i-preserved
loop-i-preserved c =
    let lines = c.args.lines.now in
    let i = c.loop-i.i in
    let within : length lines - 1 - i < length lines = omega (arith, c.loop-i-test.true) in
    let next : length lines - i ≡ length lines - 1 - i + 1 = omega (arith, c.loop-i-test.true) in
    let less : length lines - (i + 1) ≡ length lines - 1 - i = omega arith in
    ap (λ n. order_in (views (take n lines))) less
    ∙ sym (order_gone lines (length lines - 1 - i) (length lines - i) c.index-lines-lines.result within c.index-lines-lines.is next c.in_default.not-Order)
    ∙ c.loop-i.invariant

pub returns : goal.returns
returns c =
    let none : length c.args.lines.now - c.loop-i.i ≡ 0 = omega (arith, c.loop-i-test.false) in
    sym (no_order c.args.lines.now (length c.args.lines.now - c.loop-i.i) none) ∙ c.loop-i.invariant
