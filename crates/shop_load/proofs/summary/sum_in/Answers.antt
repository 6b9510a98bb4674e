use Rattle.std.proofs.Common.{◌≡◌, ◌+◌, pos, ℤ, ◌+ℤ◌, drop, FitsSigned, w64, rules, arith, sym, ◌∙◌, ap}
use Rattle.std.proofs.lemmas.Int.{ints}
use Rattle.teb_rules.specs.declared.names.Cell.{Cell}
use Rattle.shop_load.specs.Summaries.{sum_in}
use Rattle.shop_load.proofs.Summing.{sum_step}
use Rattle.shop_load.proofs.summary.sum_in.Goals as goal

pub loop-row-preserved : goal.loop-row-preserved
loop-row-preserved c =
    let t = c.args.table.0 in
    let rows = c.args.rows.now in
    let i = c.loop-row.row-index in
    let none : Cell × ℤ = (record { table = record { 0 = 0 }; key = 0 }, pos 0) in
    let rest = sum_in t (drop (i + 1) rows) in
    let step : sum_in t (drop i rows) ≡ c.added.result +ℤ rest = sum_step t i rows none c.loop-row-test.true ∙ ap (λ (z : ℤ). z +ℤ rest) (sym c.added.ensures) in
    let fits : FitsSigned w64 c.added.result = search rules in
    let same = c.from-sum.ensures in
    let sum = c.loop-row.invariant.sum in
    let low = c.loop-row.invariant.low in
    let high = c.loop-row.invariant.high in
    record { sum = omega (arith, ints); low = omega (arith, ints); high = omega (arith, ints) }
