use Rattle.std.proofs.Common.{◌≡◌, drop}
use Rattle.teb_rules.specs.Stops.{stop_of}
use Rattle.store_setup.specs.tree.Grown.{node_numbers}
use Rattle.engine_core.specs.Views.{store_in, events_in}
use Rattle.engine_core.proofs.questions.first_stop.Given as goal

abbrev pub invariant-loop-node : goal.invariant-loop-node
invariant-loop-node g l =
    let f = g.Q.Question.verdict_on l.question (store_in l.view).setup (events_in l.view) in
    stop_of f (node_numbers (drop l.node-index l.nodes)) ≡ stop_of f (node_numbers l.nodes)
