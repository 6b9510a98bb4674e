use Rattle.std.proofs.Common.{◌∙◌, sym, ap}
use Rattle.std.proofs.lemmas.Bool.{both_ways}
use Rattle.phase_api.specs.FactsView.{setup_of, events_of}
use Rattle.snapshot_node.specs.declared.marks.Mark.{Mark}
use Rattle.snapshot_node.proofs.Listed.{at_among}
use Rattle.snapshot_node.proofs.FirstOf.{none_yet, none_more, first_not}
use Rattle.snapshot_node.proofs.Nearness.{LeftAcross}
use Rattle.snapshot_node.proofs.validation.Validation.is_left_among.Goals as goal
use Rattle.snapshot_node.proofs.validation.Validation.is_left_among.Goals.{else-mark_of-via-then-mark_of+then-is_at_stake+else-are_across}
use Rattle.snapshot_node.proofs.validation.Validation.is_left_among.Goals.{else-mark_of-via-then-mark_of+else-is_at_stake, else-mark_of-via-else-mark_of}

pub loop-b-init : goal.loop-b-init
loop-b-init c = none_yet (LeftAcross c.args.self.now c.args.among.now) (record { 0 = 0 }) c.args.among.now

pub mark_of-requires : goal.mark_of-requires
mark_of-requires c = c.requires _ (at_among c.args.among.now c.loop-b.b-index _ c.loop-b-test.true)

pub are_across-requires-clause-right : goal.are_across-requires-clause-right
are_across-requires-clause-right c = c.requires _ (at_among c.args.among.now c.loop-b.b-index _ c.loop-b-test.true)

pub loop-b-preserved : goal.loop-b-preserved
loop-b-preserved c =
    none_more (LeftAcross c.args.self.now c.args.among.now) (record { 0 = 0 }) c.args.among.now c.loop-b.b-index c.loop-b.invariant
    (λ p. elim c.else-mark_of.branch [
      | else-mark_of-via-then-mark_of+then-is_at_stake+else-are_across w ↦ both_ways _ (sym w.are_across.ensures ∙ w.if-are_across.false) p.0.across
      | else-mark_of-via-then-mark_of+else-is_at_stake w ↦ both_ways _ (sym w.is_at_stake.ensures ∙ w.if-is_at_stake.false) p.0.stake
      | else-mark_of-via-else-mark_of w ↦ both_ways _ (ap (λ (m : Mark). m.left) (sym c.mark_of.ensures) ∙ w.if-mark_of.false) p.1
    ])

pub returns : goal.returns
returns c h u a m =
    let S = setup_of c.args.self.now.asked.facts.now in
    let H = events_of c.args.self.now.asked.facts.now in
    let n = c.args.self.now.asked.register.now.node.0 in
    let t = c.args.self.now.t.0 in
    first_not (LeftAcross c.args.self.now c.args.among.now) (record { 0 = 0 }) c.args.among.now (λ w p. p.0.listed) c.loop-b.b-index c.loop-b-test.false c.loop-b.invariant u (a, m)
