use Rattle.std.proofs.Common.{◌∙◌, sym}
use Rattle.std.proofs.lemmas.Bool.{both_ways}
use Rattle.teb_rules.specs.declared.names.Txn.{Txn}
use Rattle.phase_api.specs.FactsView.{setup_of, events_of}
use Rattle.snapshot_node.specs.Pivots.{IsMiddleAmong}
use Rattle.snapshot_node.proofs.Listed.{at_among}
use Rattle.snapshot_node.proofs.FirstOf.{none_yet, none_more, first_is, first_not}
use Rattle.snapshot_node.proofs.Middles.{is_left, not_left}
use Rattle.snapshot_node.proofs.validation.Validation.middle_by.Goals as goal
use Rattle.snapshot_node.proofs.validation.Validation.middle_by.Goals.{else-is_at_stake-via-then-is_at_stake+then-are_across+else-is_some}
use Rattle.snapshot_node.proofs.validation.Validation.middle_by.Goals.{else-is_at_stake-via-then-is_at_stake+else-are_across, else-is_at_stake-via-else-is_at_stake}

pub loop-b-init : goal.loop-b-init
loop-b-init c = none_yet (IsMiddleAmong (setup_of c.args.self.now.asked.facts.now) (events_of c.args.self.now.asked.facts.now) c.args.self.now.asked.register.now.node.0 c.args.self.now.t.0 c.args.a.0
    c.args.among.now) (record { 0 = 0 }) c.args.among.now

pub are_across-requires-clause-right : goal.are_across-requires-clause-right
are_across-requires-clause-right c = c.requires.among_here _ (at_among c.args.among.now c.loop-b.b-index _ c.loop-b-test.true)

pub edge_out-requires-clause-here : goal.edge_out-requires-clause-here
edge_out-requires-clause-here c = c.requires.among_here _ (at_among c.args.among.now c.loop-b.b-index _ c.loop-b-test.true)

pub returns-then-is_some : goal.returns-then-is_some
returns-then-is_some c =
    let S = setup_of c.args.self.now.asked.facts.now in
    let H = events_of c.args.self.now.asked.facts.now in
    let n = c.args.self.now.asked.register.now.node.0 in
    let a = c.args.a.0 in
    let P = IsMiddleAmong S H n c.args.self.now.t.0 a c.args.among.now in
    let d : Txn = record { 0 = 0 } in
    first_is P d c.args.among.now (λ w p. p.across.listed) c.requires.ascending c.loop-b.b-index c.loop-b-test.true c.loop-b.invariant
    record {
      across = record {
        listed = at_among c.args.among.now c.loop-b.b-index d c.loop-b-test.true;
        stake = sym c.is_at_stake.ensures ∙ c.if-is_at_stake.true;
        across = sym c.are_across.ensures ∙ c.if-are_across.true;
      };
      left = is_left S H n c.args.self.now.t.0 _ c.edge_out.result c.is_some.result c.is_some.ensures c.if-is_some.true c.edge_out.ensures;
    }

pub loop-b-preserved : goal.loop-b-preserved
loop-b-preserved c =
    let S = setup_of c.args.self.now.asked.facts.now in
    let H = events_of c.args.self.now.asked.facts.now in
    let n = c.args.self.now.asked.register.now.node.0 in
    let P = IsMiddleAmong S H n c.args.self.now.t.0 c.args.a.0 c.args.among.now in
    none_more P (record { 0 = 0 }) c.args.among.now c.loop-b.b-index c.loop-b.invariant
    (λ p. elim c.else-is_at_stake.branch [
      | else-is_at_stake-via-then-is_at_stake+then-are_across+else-is_some w ↦ not_left S H n c.args.self.now.t.0 _ w.edge_out.result w.is_some.result w.is_some.ensures w.if-is_some.false
          w.edge_out.ensures p.left
      | else-is_at_stake-via-then-is_at_stake+else-are_across w ↦ both_ways _ (sym w.are_across.ensures ∙ w.if-are_across.false) p.across.across
      | else-is_at_stake-via-else-is_at_stake w ↦ both_ways _ (sym c.is_at_stake.ensures ∙ w.if-is_at_stake.false) p.across.stake
    ])

pub returns : goal.returns
returns c =
    let S = setup_of c.args.self.now.asked.facts.now in
    let H = events_of c.args.self.now.asked.facts.now in
    let n = c.args.self.now.asked.register.now.node.0 in
    let a = c.args.a.0 in
    let P = IsMiddleAmong S H n c.args.self.now.t.0 a c.args.among.now in
    first_not P (record { 0 = 0 }) c.args.among.now (λ w p. p.across.listed) c.loop-b.b-index c.loop-b-test.false c.loop-b.invariant
