use Rattle.std.proofs.Common.{◌∙◌, sym}
use Rattle.std.proofs.lemmas.Bool.{both_ways}
use Rattle.teb_rules.specs.declared.names.Txn.{Txn}
use Rattle.phase_api.specs.FactsView.{setup_of, events_of}
use Rattle.snapshot_node.specs.Pivots.{IsMateAmong}
use Rattle.snapshot_node.proofs.Listed.{at_among}
use Rattle.snapshot_node.proofs.FirstOf.{none_yet, none_more, first_is, first_not}
use Rattle.snapshot_node.proofs.validation.Validation.first_mate_across.Goals as goal
use Rattle.snapshot_node.proofs.validation.Validation.first_mate_across.Goals.{else-are_one_batch-via-then-are_one_batch+then-is_at_stake+else-are_across}
use Rattle.snapshot_node.proofs.validation.Validation.first_mate_across.Goals.{else-are_one_batch-via-then-are_one_batch+else-is_at_stake, else-are_one_batch-via-else-are_one_batch}

pub loop-u-init : goal.loop-u-init
loop-u-init c = none_yet (IsMateAmong (setup_of c.args.self.now.asked.facts.now) (events_of c.args.self.now.asked.facts.now) c.args.self.now.asked.register.now.node.0 c.args.self.now.t.0 c.args.b.0
    c.args.among.now) (record { 0 = 0 }) c.args.among.now

pub are_one_batch-requires-clause-begun_b : goal.are_one_batch-requires-clause-begun_b
are_one_batch-requires-clause-begun_b c = c.requires.here.typed.begun

pub are_one_batch-requires-clause-begun_c : goal.are_one_batch-requires-clause-begun_c
are_one_batch-requires-clause-begun_c c = (c.requires.among_here _ (at_among c.args.among.now c.loop-u.u-index _ c.loop-u-test.true)).typed.begun

pub are_across-requires-clause-right : goal.are_across-requires-clause-right
are_across-requires-clause-right c = c.requires.among_here _ (at_among c.args.among.now c.loop-u.u-index _ c.loop-u-test.true)

pub returns-then-are_across : goal.returns-then-are_across
returns-then-are_across c =
    let v = c.args.self.now in
    let S = setup_of v.asked.facts.now in
    let H = events_of v.asked.facts.now in
    let n = v.asked.register.now.node.0 in
    let t = v.t.0 in
    let P = IsMateAmong S H n t c.args.b.0 c.args.among.now in
    let d : Txn = record { 0 = 0 } in
    first_is P d c.args.among.now (λ w p. p.0.listed) c.requires.ascending c.loop-u.u-index c.loop-u-test.true c.loop-u.invariant (
      record {
        listed = at_among c.args.among.now c.loop-u.u-index d c.loop-u-test.true;
        stake = sym c.is_at_stake.ensures ∙ c.if-is_at_stake.true;
        across = sym c.are_across.ensures ∙ c.if-are_across.true;
      },
      sym c.are_one_batch.ensures ∙ c.if-are_one_batch.true,
    )

pub loop-u-preserved : goal.loop-u-preserved
loop-u-preserved c =
    let v = c.args.self.now in
    let S = setup_of v.asked.facts.now in
    let H = events_of v.asked.facts.now in
    let n = v.asked.register.now.node.0 in
    let t = v.t.0 in
    none_more (IsMateAmong S H n t c.args.b.0 c.args.among.now) (record { 0 = 0 }) c.args.among.now c.loop-u.u-index c.loop-u.invariant
    (λ p. elim c.else-are_one_batch.branch [
      | else-are_one_batch-via-then-are_one_batch+then-is_at_stake+else-are_across w ↦ both_ways _ (sym w.are_across.ensures ∙ w.if-are_across.false) p.0.across
      | else-are_one_batch-via-then-are_one_batch+else-is_at_stake w ↦ both_ways _ (sym w.is_at_stake.ensures ∙ w.if-is_at_stake.false) p.0.stake
      | else-are_one_batch-via-else-are_one_batch w ↦ both_ways _ (sym c.are_one_batch.ensures ∙ w.if-are_one_batch.false) p.1
    ])

pub returns : goal.returns
returns c =
    let v = c.args.self.now in
    let S = setup_of v.asked.facts.now in
    let H = events_of v.asked.facts.now in
    let n = v.asked.register.now.node.0 in
    let t = v.t.0 in
    first_not (IsMateAmong S H n t c.args.b.0 c.args.among.now) (record { 0 = 0 }) c.args.among.now (λ w p. p.0.listed) c.loop-u.u-index c.loop-u-test.false c.loop-u.invariant
