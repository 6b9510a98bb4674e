use Rattle.teb_rules.specs.Answer.{answer_of}
use Rattle.engine_core.specs.Views.{store_in, events_in}
use Rattle.engine_core.proofs.Deciding.{stops, goes}
use Rattle.engine_core.proofs.decide.decide_commit.Goals as goal

pub returns-in_default-clause-answer : goal.returns-in_default-clause-answer
unfolding answer_of
returns-in_default-clause-answer g c =
    let X = store_in c.args.asking.now.view.now in
    let H = events_in c.args.asking.now.view.now in
    let t = c.args.asking.now.txn.0 in
    stops X H t _ _ _ _ c.commit_stop.ensures (c.stopped.ensures X H)

pub returns-in_default-clause-bounded : goal.returns-in_default-clause-bounded
returns-in_default-clause-bounded g c =
    let X = store_in c.args.asking.now.view.now in
    let H = events_in c.args.asking.now.view.now in
    (c.stopped.ensures X H).1 (g.C.Chains.lists c.args.asking.now.view.now.state.now.chains)

pub returns-in-Go-clause-answer : goal.returns-in-Go-clause-answer
unfolding answer_of
returns-in-Go-clause-answer g c = goes (store_in c.args.asking.now.view.now) (events_in c.args.asking.now.view.now) c.args.asking.now.txn.0 _ _ _ c.commit_stop.ensures c.in-Go.is
