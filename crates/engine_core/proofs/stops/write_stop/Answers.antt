use Rattle.std.proofs.Common.{true}
use Rattle.teb_rules.specs.history.Phases.{spot_of}
use Rattle.commit_gate.proofs.CommitWaits.{typed_now}
use Rattle.engine_core.specs.Questions.{MayAskToWrite}
use Rattle.engine_core.specs.Views.{store_in, events_in}
use Rattle.engine_core.proofs.Along.{asked_along, here_on, access_along}
use Rattle.engine_core.proofs.stops.write_stop.Goals as goal

pub first_stop-requires : goal.first_stop-requires
first_stop-requires g c =
    let asking = c.args.access.now.asking.now in
    let asks = c.args.access.now.asks in
    let view = asking.view.now in
    let f = view.facts in
    let t = asking.txn.0 in
    let typed = typed_now f t view.whole.whole.lawful asking.runs in
    let may = MayAskToWrite (record { txn = asking.txn; cell = c.args.access.now.cell; at = c.args.at }) (g.C.Chains.lists view.state.now.chains) f in
    asked_along f may (spot_of (events_in view) t) asking.nodes.now view.whole.whole.sound asking.way
    (λ n o. (record { here = here_on f t n typed o; unfinished = asks.unfinished; unprepared = asks.unprepared; step = asks.step }, c.requires.told n o))

pub returns : goal.returns
returns g c =
    let asking = c.args.access.now.asking.now in
    access_along (store_in asking.view.now).setup (events_in asking.view.now) asking.txn.0 c.args.access.now.cell true _ _ asking.way c.first_stop.ensures
