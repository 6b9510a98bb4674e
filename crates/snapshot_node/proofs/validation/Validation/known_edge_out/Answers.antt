use Rattle.std.proofs.Common.{◌≡◌, ◌∙◌, ◌+◌, None, sym, subst, arith}
use Rattle.phase_api.specs.FactsView.{setup_of, events_of}
use Rattle.batch_book.proofs.Numbered.{begun_all}
use Rattle.batch_book.proofs.Telling.{joined_from, joined_began}
use Rattle.snapshot_node.specs.Pivots.{IsLeast, Leads}
use Rattle.snapshot_node.specs.Validating.{may_lead}
use Rattle.snapshot_node.proofs.Batchmates.{mate_here, leave_above, leave_unknown, leave_apart, leave_none, leave_here, leave_end}
use Rattle.snapshot_node.proofs.validation.Validation.known_edge_out.Goals.{else-may_lead-via-else-may_lead, else-may_lead-via-then-may_lead+else-is_mate}
use Rattle.snapshot_node.proofs.validation.Validation.known_edge_out.Goals.{else-may_lead-via-then-may_lead+then-is_mate+in-None-1}
use Rattle.snapshot_node.proofs.validation.Validation.known_edge_out.Goals as goal

pub horizon-first-requires : goal.horizon-first-requires
horizon-first-requires c = joined_from _ (setup_of c.args.self.now.asked.facts.now) (events_of c.args.self.now.asked.facts.now) c.args.self.now.asked.register.now.node.0 c.args.b.0
    c.args.self.now.asked.stands.batches c.requires.typed.begun c.requires.on

pub overflow_step-i : goal.overflow_step-i
overflow_step-i c =
    let g = joined_began _ (setup_of c.args.self.now.asked.facts.now) (events_of c.args.self.now.asked.facts.now) c.args.self.now.asked.register.now.node.0 c.horizon-first.result.0
    c.args.self.now.asked.stands.batches c.horizon-first.ensures.joined in
    (c.args.self.now.asked.stands.orderly.numbered c.horizon-first.result.0 g.0).0

pub loop-i-init : goal.loop-i-init
loop-i-init c =
    let v = c.args.self.now in
    let S = setup_of v.asked.facts.now in
    let H = events_of v.asked.facts.now in
    let n = v.asked.register.now.node.0 in
    let t = v.t.0 in
    leave_above S H n t c.args.b.0 (may_lead v) c.horizon-first.result.0 v.lawful v.asked.stands.orderly (c.horizon-first.ensures.closed S H n v.asked.stands.batches)

pub is_mate-requires-clause-begun_u : goal.is_mate-requires-clause-begun_u
is_mate-requires-clause-begun_u c = begun_all (events_of c.args.self.now.asked.facts.now) (c.loop-i.i + 1) c.args.self.now.asked.stands.batches.numbered (omega arith)
    (let e = c.begun-i-end.ensures in let l = c.loop-i-test.true in omega arith)

pub least_ahead-requires-clause-here : goal.least_ahead-requires-clause-here
least_ahead-requires-clause-here c = mate_here c.args.self.now.asked.facts.now c.args.self.now.asked.register.now.node.0 c.args.self.now.t.0 c.args.b.0 c.loop-i.i
    c.args.self.now.asked.stands.batches.numbered c.args.self.now.asked.stands.orderly
    (let e = c.begun-i-end.ensures in let l = c.loop-i-test.true in omega arith) (sym c.is_mate.ensures ∙ c.if-is_mate.true)

pub returns-in-loop-i : goal.returns-in-loop-i
returns-in-loop-i c =
    let v = c.args.self.now in
    let S = setup_of v.asked.facts.now in
    let H = events_of v.asked.facts.now in
    let n = v.asked.register.now.node.0 in
    let t = v.t.0 in
    leave_here S H n t c.args.b.0 (may_lead v) c.loop-i.i c.in-Some.d c.loop-i.invariant (sym c.is_mate.ensures ∙ c.if-is_mate.true) c.in-Some.ensures

pub loop-i-preserved : goal.loop-i-preserved
loop-i-preserved c =
    let v = c.args.self.now in
    let S = setup_of v.asked.facts.now in
    let H = events_of v.asked.facts.now in
    let n = v.asked.register.now.node.0 in
    let t = v.t.0 in
    let b = c.args.b.0 in
    let i = c.loop-i.i in
    elim c.else-may_lead.branch [
      | else-may_lead-via-else-may_lead w ↦ leave_unknown S H n t b (may_lead v) i c.loop-i.invariant (sym c.may_lead.ensures ∙ w.if-may_lead.false)
      | else-may_lead-via-then-may_lead+else-is_mate w ↦ leave_apart S H n t b (may_lead v) i c.loop-i.invariant (sym w.is_mate.ensures ∙ w.if-is_mate.false)
      | else-may_lead-via-then-may_lead+then-is_mate+in-None-1 w ↦ (let e : w.least_ahead.result ≡ None = cc in
          leave_none S H n t b (may_lead v) i c.loop-i.invariant (subst (IsLeast (Leads S H n t (i + 1))) e w.least_ahead.ensures))
    ]

pub returns : goal.returns
returns c =
    let v = c.args.self.now in
    let S = setup_of v.asked.facts.now in
    let H = events_of v.asked.facts.now in
    let n = v.asked.register.now.node.0 in
    let t = v.t.0 in
    leave_end S H n t c.args.b.0 (may_lead v) c.loop-i.i v.asked.stands.orderly c.loop-i.invariant (let e = c.begun-i-end.ensures in let l = c.loop-i-test.false in omega arith)
