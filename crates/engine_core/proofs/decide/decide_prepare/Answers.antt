use Rattle.std.proofs.Common.{sym, ◌∙◌, ap, refl}
use Rattle.teb_rules.specs.Answer.{answer_of}
use Rattle.engine_core.specs.Decisions.{carried}
use Rattle.engine_core.specs.Views.{store_in, events_in}
use Rattle.engine_core.proofs.Deciding.{stops, goes}
use Rattle.engine_core.proofs.decide.decide_prepare.Goals as goal

pub returns-then-asking-clause-answer : goal.returns-then-asking-clause-answer
unfolding answer_of
returns-then-asking-clause-answer g c =
    let X = store_in c.args.asking.now.view.now in
    let H = events_in c.args.asking.now.view.now in
    ap (carried X H) c.refused.ensures ∙ (rw (sym c.args.asking.now.flag ∙ c.if-asking.true) refl)

pub returns-in_default-clause-answer : goal.returns-in_default-clause-answer
unfolding answer_of
returns-in_default-clause-answer g c =
    let X = store_in c.args.asking.now.view.now in
    let H = events_in c.args.asking.now.view.now in
    let t = c.args.asking.now.txn.0 in
    rw (sym c.args.asking.now.flag ∙ c.if-asking.false)
    (stops X H t _ _ _ _ c.prepare_stop.ensures (c.stopped.ensures X H))

pub returns-in_default-clause-bounded : goal.returns-in_default-clause-bounded
returns-in_default-clause-bounded g c =
    let X = store_in c.args.asking.now.view.now in
    let H = events_in c.args.asking.now.view.now in
    (c.stopped.ensures X H).1 (g.C.Chains.lists c.args.asking.now.view.now.state.now.chains)

pub returns-in-Go-clause-answer : goal.returns-in-Go-clause-answer
unfolding answer_of
returns-in-Go-clause-answer g c = rw (sym c.args.asking.now.flag ∙ c.if-asking.false)
    (goes (store_in c.args.asking.now.view.now) (events_in c.args.asking.now.view.now) c.args.asking.now.txn.0 _ _ _ c.prepare_stop.ensures c.in-Go.is)
