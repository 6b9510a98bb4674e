use Rattle.std.proofs.Common.{◌∙◌}
use Rattle.std.proofs.lemmas.List.Elements.{All-get_or}
use Rattle.phase_api.proofs.StopAlong.{stop_next, stop_here, stop_end}
use Rattle.engine_core.specs.Questions.{CanAsk}
use Rattle.engine_core.specs.Views.{store_in, events_in}
use Rattle.engine_core.proofs.questions.first_stop.Goals as goal

pub verdict_at-requires : goal.verdict_at-requires
verdict_at-requires g c =
    let view = c.args.view.now in
    All-get_or (CanAsk (g.Q.Question.may_ask c.args.question (g.C.Chains.lists view.state.now.chains) view.facts) view.facts) c.args.nodes.now c.loop-node.node-index _ c.loop-node-test.true c.requires

pub loop-node-preserved : goal.loop-node-preserved
loop-node-preserved g c =
    let f = g.Q.Question.verdict_on c.args.question (store_in c.args.view.now).setup (events_in c.args.view.now) in
    stop_next f c.args.nodes.now c.loop-node.node-index _ _ c.loop-node-test.true c.verdict_at.ensures c.in-Go.is c.loop-node.invariant

pub returns-in_default : goal.returns-in_default
returns-in_default g c =
    let f = g.Q.Question.verdict_on c.args.question (store_in c.args.view.now).setup (events_in c.args.view.now) in
    c.stop_at.ensures ∙ stop_here f c.args.nodes.now c.loop-node.node-index _ _ c.loop-node-test.true c.verdict_at.ensures c.in_default.not-Go c.loop-node.invariant

pub returns : goal.returns
returns g c =
    let f = g.Q.Question.verdict_on c.args.question (store_in c.args.view.now).setup (events_in c.args.view.now) in
    stop_end f c.args.nodes.now c.loop-node.node-index c.loop-node-test.false c.loop-node.invariant
