use Rattle.std.proofs.Common.{◌≡◌}
use Rattle.teb_rules.specs.Answer.{cells_from}
use Rattle.teb_rules.specs.Stops.{scan_stop}
use Rattle.engine_core.specs.Views.{store_in, events_in}
use Rattle.engine_core.proofs.Gathering.{rest_of}
use Rattle.engine_core.proofs.scans.scan_stop.Given as goal

abbrev pub invariant-loop-i : goal.invariant-loop-i
invariant-loop-i g l =
    let view = l.first.asking.now.view.now in
    let stop = scan_stop (store_in view).setup (events_in view) l.first.asking.now.txn.0 in
    stop (cells_from l.first.cell l.count) ≡ stop (rest_of l.first.cell l.count l.i)
