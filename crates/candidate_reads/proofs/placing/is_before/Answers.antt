use Rattle.std.proofs.Common.{◌≡◌, ◌∙◌, ℕ, false, ap}
use Rattle.teb_rules.specs.Setup.{NodeRow}
use Rattle.teb_rules.specs.Tree.{row, is_timestamp}
use Rattle.phase_api.specs.FactsView.{setup_of, events_of}
use Rattle.candidate_reads.proofs.Placed.{unfinished_stands}
use Rattle.candidate_reads.proofs.Meets.{writer_typed, pair_before, order_there, later_there, no_timestamp}
use Rattle.candidate_reads.proofs.placing.is_before.Goals as goal

pub control_between-control-requires-clause-left : goal.control_between-control-requires-clause-left
control_between-control-requires-clause-left g c = writer_typed c.args.facts.now c.args.cell c.args.w.0 c.requires.asked.lawful c.requires.version

pub orders-requires-clause-pair : goal.orders-requires-clause-pair
orders-requires-clause-pair g c = pair_before c.args.facts.now c.args.cell (g.K.Control.node_number c.control_between-control.result.now) c.args.w.0 c.args.t.0 c.requires.asked.tree
    c.requires.asked.lawful c.requires.version c.requires.put.typed
    (unfinished_stands (events_of c.args.facts.now) c.args.t.0 c.requires.put.unfinished) c.control_between-control.ensures.meet

pub returns-in-Timestamp : goal.returns-in-Timestamp
returns-in-Timestamp g c = c.orders.ensures ∙ order_there c.args.facts.now c.args.cell (g.K.Control.node_number c.control_between-control.result.now) c.args.w.0 c.args.t.0 c.requires.asked.tree
    c.requires.asked.lawful c.requires.version c.requires.put.typed c.control_between-control.ensures.meet

pub returns-in_default : goal.returns-in_default
returns-in_default g c =
    let n = g.K.Control.node_number c.control_between-control.result.now in
    let tree = (setup_of c.args.facts.now).tree in
    let kind = ap (λ (r : NodeRow). r.control) c.row.ensures ∙ ap (λ (m : ℕ). (row tree m).control) c.node.ensures in
    let other : is_timestamp (row tree n).control ≡ false = no_timestamp _ (λ e. c.in_default.not-Timestamp (kind ∙ e)) in
    later_there c.args.facts.now c.args.cell n c.args.w.0 c.args.t.0 c.requires.asked.tree c.requires.asked.lawful c.requires.version c.requires.put.typed
    other c.requires.put.absent (unfinished_stands (events_of c.args.facts.now) c.args.t.0 c.requires.put.unfinished) c.control_between-control.ensures.meet
