use Rattle.std.proofs.Common.{◌∙◌, ◌+◌, sym, subst, arith}
use Rattle.phase_api.specs.FactsView.{setup_of, events_of}
use Rattle.batch_book.proofs.Numbered.{begun_all}
use Rattle.batch_book.proofs.Telling.{joined_from, joined_began}
use Rattle.snapshot_node.specs.Pivots.{IsLeast}
use Rattle.snapshot_node.specs.Validating.{may_be_led_to}
use Rattle.snapshot_node.proofs.Batchmates.{ReachesBy, mate_here, reach_start, reach_unknown, reach_apart, reach_here, reach_end}
use Rattle.snapshot_node.proofs.validation.Validation.known_into.Goals.{then-may_be_led_to+then-is_mate, else-may_be_led_to}
use Rattle.snapshot_node.proofs.validation.Validation.known_into.Goals.{else-may_be_led_to-via-then-may_be_led_to+else-is_mate, else-may_be_led_to-via-else-may_be_led_to}
use Rattle.snapshot_node.proofs.validation.Validation.known_into.Goals as goal

pub horizon-first-requires : goal.horizon-first-requires
horizon-first-requires c = joined_from _ (setup_of c.args.self.now.asked.facts.now) (events_of c.args.self.now.asked.facts.now) c.args.self.now.asked.register.now.node.0 c.args.c.0
    c.args.self.now.asked.stands.batches c.requires.typed.begun c.requires.on

pub overflow_step-i : goal.overflow_step-i
overflow_step-i c =
    let g = joined_began _ (setup_of c.args.self.now.asked.facts.now) (events_of c.args.self.now.asked.facts.now) c.args.self.now.asked.register.now.node.0 c.horizon-first.result.0
    c.args.self.now.asked.stands.batches c.horizon-first.ensures.joined in
    (c.args.self.now.asked.stands.orderly.numbered c.horizon-first.result.0 g.0).0

pub loop-i-init : goal.loop-i-init
loop-i-init c =
    let v = c.args.self.now in
    let S = setup_of v.asked.facts.now in
    let H = events_of v.asked.facts.now in
    let n = v.asked.register.now.node.0 in
    let t = v.t.0 in
    reach_start S H n t (may_be_led_to v) c.args.c.0 c.horizon-first.result.0 v.lawful v.asked.stands.orderly (c.horizon-first.ensures.closed S H n v.asked.stands.batches)

pub is_mate-requires-clause-begun_u : goal.is_mate-requires-clause-begun_u
is_mate-requires-clause-begun_u c = begun_all (events_of c.args.self.now.asked.facts.now) (c.loop-i.i + 1) c.args.self.now.asked.stands.batches.numbered (omega arith)
    (let e = c.begun-i-end.ensures in let l = c.loop-i-test.true in omega arith)

pub least_behind-requires-clause-here : goal.least_behind-requires-clause-here
least_behind-requires-clause-here c = mate_here c.args.self.now.asked.facts.now c.args.self.now.asked.register.now.node.0 c.args.self.now.t.0 c.args.c.0 c.loop-i.i
    c.args.self.now.asked.stands.batches.numbered c.args.self.now.asked.stands.orderly
    (let e = c.begun-i-end.ensures in let l = c.loop-i-test.true in omega arith) (sym c.is_mate.ensures ∙ c.if-is_mate.true)

pub loop-i-preserved : goal.loop-i-preserved
loop-i-preserved c =
    let v = c.args.self.now in
    let S = setup_of v.asked.facts.now in
    let H = events_of v.asked.facts.now in
    let n = v.asked.register.now.node.0 in
    let t = v.t.0 in
    let p = may_be_led_to v in
    let i = c.loop-i.i in
    let R = IsLeast (ReachesBy S H n t p c.args.c.0 (i + 1)) in
    elim c.if-may_be_led_to.branch [
      | then-may_be_led_to+then-is_mate w ↦ subst R (sym (w.least-is ∙ w.lesser-least.ensures))
          (reach_here S H n t p c.args.c.0 i c.loop-i.least w.least_behind.result (sym c.may_be_led_to.ensures ∙ w.if-may_be_led_to.true) (sym w.is_mate.ensures ∙ w.if-is_mate.true) c.loop-i.invariant
          w.least_behind.ensures)
      | else-may_be_led_to w ↦ subst R (sym w.least-is) (elim w.else-may_be_led_to.branch as (λ x. R c.loop-i.least) [
        | else-may_be_led_to-via-then-may_be_led_to+else-is_mate u ↦ reach_apart S H n t p c.args.c.0 i c.loop-i.least (sym u.is_mate.ensures ∙ u.if-is_mate.false) c.loop-i.invariant
        | else-may_be_led_to-via-else-may_be_led_to u ↦ reach_unknown S H n t p c.args.c.0 i c.loop-i.least (sym c.may_be_led_to.ensures ∙ u.if-may_be_led_to.false) c.loop-i.invariant
      ])
    ]

pub returns : goal.returns
returns c =
    let v = c.args.self.now in
    let S = setup_of v.asked.facts.now in
    let H = events_of v.asked.facts.now in
    let n = v.asked.register.now.node.0 in
    let t = v.t.0 in
    reach_end S H n t (may_be_led_to v) c.args.c.0 c.loop-i.i c.loop-i.least v.asked.stands.orderly (let e = c.begun-i-end.ensures in let l = c.loop-i-test.false in omega arith) c.loop-i.invariant
