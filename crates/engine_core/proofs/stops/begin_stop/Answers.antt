use Rattle.engine_core.specs.Questions.{MayAskToBegin}
use Rattle.engine_core.specs.Views.{store_in, events_in}
use Rattle.engine_core.proofs.Along.{asked_along, begin_along}
use Rattle.engine_core.proofs.stops.begin_stop.Goals as goal

pub first_stop-requires : goal.first_stop-requires
first_stop-requires g c =
    let view = c.args.view.now in
    let may = MayAskToBegin (record { spot = c.args.spot }) (g.C.Chains.lists view.state.now.chains) view.facts in
    asked_along view.facts may c.args.spot c.path.result.now view.whole.whole.sound c.path.ensures.nodes (λ n o. (c.requires.kind, o))

pub returns : goal.returns
returns g c = begin_along (store_in c.args.view.now).setup (events_in c.args.view.now) c.args.spot _ _ c.path.ensures.nodes c.first_stop.ensures
