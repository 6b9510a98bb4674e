use Rattle.teb_rules.specs.history.Phases.{spot_of}
use Rattle.commit_gate.proofs.CommitWaits.{typed_now}
use Rattle.engine_core.specs.Questions.{MayAskToPrepare}
use Rattle.engine_core.specs.Views.{store_in, events_in}
use Rattle.engine_core.proofs.Along.{asked_along, here_on, prepare_along}
use Rattle.engine_core.proofs.stops.prepare_stop.Goals as goal

pub first_stop-requires : goal.first_stop-requires
first_stop-requires g c =
    let asking = c.args.asking.now in
    let view = asking.view.now in
    let f = view.facts in
    let t = asking.txn.0 in
    let may = MayAskToPrepare (record { txn = asking.txn }) (g.C.Chains.lists view.state.now.chains) f in
    asked_along f may (spot_of (events_in view) t) asking.nodes.now view.whole.whole.sound asking.way
    (λ n o. (here_on f t n (typed_now f t view.whole.whole.lawful asking.runs) o, asking.runs))

pub returns : goal.returns
returns g c =
    let asking = c.args.asking.now in
    prepare_along (store_in asking.view.now).setup (events_in asking.view.now) asking.txn.0 _ _ asking.way c.first_stop.ensures
