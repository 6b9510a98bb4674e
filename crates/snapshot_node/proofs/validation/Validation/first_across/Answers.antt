use Rattle.std.proofs.Common.{◌∙◌, sym}
use Rattle.std.proofs.lemmas.Bool.{both_ways}
use Rattle.teb_rules.specs.declared.names.Txn.{Txn}
use Rattle.phase_api.specs.FactsView.{setup_of, events_of}
use Rattle.snapshot_node.specs.Pivots.{IsAcross}
use Rattle.snapshot_node.proofs.Listed.{at_among}
use Rattle.snapshot_node.proofs.FirstOf.{none_yet, none_more, first_is, first_not}
use Rattle.snapshot_node.proofs.validation.Validation.first_across.Goals as goal
use Rattle.snapshot_node.proofs.validation.Validation.first_across.Goals.{else-is_at_stake-via-then-is_at_stake+else-are_across, else-is_at_stake-via-else-is_at_stake}

pub loop-v-init : goal.loop-v-init
loop-v-init c = none_yet (IsAcross (setup_of c.args.self.now.asked.facts.now) (events_of c.args.self.now.asked.facts.now) c.args.self.now.asked.register.now.node.0 c.args.self.now.t.0 c.args.u.0
    c.args.among.now) (record { 0 = 0 }) c.args.among.now

pub are_across-requires-clause-right : goal.are_across-requires-clause-right
are_across-requires-clause-right c = c.requires.among_here _ (at_among c.args.among.now c.loop-v.v-index _ c.loop-v-test.true)

pub returns-then-are_across : goal.returns-then-are_across
returns-then-are_across c =
    let S = setup_of c.args.self.now.asked.facts.now in
    let H = events_of c.args.self.now.asked.facts.now in
    let n = c.args.self.now.asked.register.now.node.0 in
    let u = c.args.u.0 in
    let P = IsAcross S H n c.args.self.now.t.0 u c.args.among.now in
    let d : Txn = record { 0 = 0 } in
    first_is P d c.args.among.now (λ w p. p.listed) c.requires.ascending c.loop-v.v-index c.loop-v-test.true c.loop-v.invariant
    record {
      listed = at_among c.args.among.now c.loop-v.v-index d c.loop-v-test.true;
      stake = sym c.is_at_stake.ensures ∙ c.if-is_at_stake.true;
      across = sym c.are_across.ensures ∙ c.if-are_across.true;
    }

pub loop-v-preserved : goal.loop-v-preserved
loop-v-preserved c =
    let P = IsAcross (setup_of c.args.self.now.asked.facts.now) (events_of c.args.self.now.asked.facts.now) c.args.self.now.asked.register.now.node.0 c.args.self.now.t.0 c.args.u.0 c.args.among.now in
    none_more P (record { 0 = 0 }) c.args.among.now c.loop-v.v-index c.loop-v.invariant
    (λ p. elim c.else-is_at_stake.branch [
      | else-is_at_stake-via-then-is_at_stake+else-are_across w ↦ both_ways _ (sym w.are_across.ensures ∙ w.if-are_across.false) p.across
      | else-is_at_stake-via-else-is_at_stake w ↦ both_ways _ (sym c.is_at_stake.ensures ∙ w.if-is_at_stake.false) p.stake
    ])

pub returns : goal.returns
returns c =
    let S = setup_of c.args.self.now.asked.facts.now in
    let H = events_of c.args.self.now.asked.facts.now in
    let n = c.args.self.now.asked.register.now.node.0 in
    let u = c.args.u.0 in
    let P = IsAcross S H n c.args.self.now.t.0 u c.args.among.now in
    first_not P (record { 0 = 0 }) c.args.among.now (λ w p. p.listed) c.loop-v.v-index c.loop-v-test.false c.loop-v.invariant
