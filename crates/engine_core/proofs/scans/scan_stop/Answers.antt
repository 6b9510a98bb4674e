use Rattle.std.proofs.Common.{◌≡◌, ℕ, false, sym, ◌∙◌, ap, arith}
use Rattle.teb_rules.specs.declared.names.Cell.{Cell}
use Rattle.teb_rules.specs.Stops.{access_stop, scan_stop}
use Rattle.engine_core.specs.Views.{store_in, events_in}
use Rattle.engine_core.proofs.Gathering.{rest_of, rest_first, stop_none, goes_on, stops_here}
use Rattle.engine_core.proofs.scans.scan_stop.Goals as goal

pub loop-i-init : goal.loop-i-init
loop-i-init g c =
    let view = c.args.first.now.asking.now.view.now in
    sym (ap (scan_stop (store_in view).setup (events_in view) c.args.first.now.asking.now.txn.0) (rest_first c.args.first.now.cell c.args.count))

pub loop-i-preserved : goal.loop-i-preserved
loop-i-preserved g c =
    let view = c.args.first.now.asking.now.view.now in
    let t = c.args.first.now.asking.now.txn.0 in
    c.loop-i.invariant ∙ goes_on (store_in view).setup (events_in view) t c.args.first.now.cell c.args.count c.loop-i.i c.read_stop.result c.loop-i-test.true
    (c.read_stop.ensures ∙ ap (λ (y : Cell). access_stop (store_in view).setup (events_in view) t y false) c.cell_at-cell.ensures) c.in-Go.is

pub returns-in_default : goal.returns-in_default
returns-in_default g c =
    let view = c.args.first.now.asking.now.view.now in
    let t = c.args.first.now.asking.now.txn.0 in
    sym (c.loop-i.invariant ∙ stops_here (store_in view).setup (events_in view) t c.args.first.now.cell c.args.count c.loop-i.i c.read_stop.result c.loop-i-test.true
    (c.read_stop.ensures ∙ ap (λ (y : Cell). access_stop (store_in view).setup (events_in view) t y false) c.cell_at-cell.ensures) c.in_default.not-Go)

pub returns : goal.returns
returns g c =
    let view = c.args.first.now.asking.now.view.now in
    let t = c.args.first.now.asking.now.txn.0 in
    let e : c.loop-i.i ≡ c.args.count = omega arith in
    sym (c.loop-i.invariant ∙ ap (λ (i : ℕ). scan_stop (store_in view).setup (events_in view) t (rest_of c.args.first.now.cell c.args.count i)) e
    ∙ stop_none (store_in view).setup (events_in view) t c.args.first.now.cell c.args.count)
