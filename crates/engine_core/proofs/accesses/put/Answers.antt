use Rattle.engine_core.specs.Views.{store_in, events_in}
use Rattle.engine_core.proofs.Deciding.{stops, goes}
use Rattle.engine_core.proofs.accesses.put.Goals as goal

pub returns-in_default-clause-answer : goal.returns-in_default-clause-answer
returns-in_default-clause-answer g c =
    let asking = c.args.access.now.asking.now in
    stops (store_in asking.view.now) (events_in asking.view.now) asking.txn.0 _ _ _ _ c.write_stop.ensures (c.stopped.ensures (store_in asking.view.now) (events_in asking.view.now))

pub returns-in_default-clause-bounded : goal.returns-in_default-clause-bounded
returns-in_default-clause-bounded g c =
    let view = c.args.access.now.asking.now.view.now in
    (c.stopped.ensures (store_in view) (events_in view)).1 (g.C.Chains.lists view.state.now.chains)

pub returns-in-Go-clause-answer : goal.returns-in-Go-clause-answer
returns-in-Go-clause-answer g c =
    let asking = c.args.access.now.asking.now in
    goes (store_in asking.view.now) (events_in asking.view.now) asking.txn.0 _ _ _ c.write_stop.ensures c.in-Go.is
