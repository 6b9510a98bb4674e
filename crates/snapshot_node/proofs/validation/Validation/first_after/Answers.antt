use Rattle.std.proofs.Common.{◌∙◌, not, refl, sym, ap, subst}
use Rattle.phase_api.specs.FactsView.{setup_of, events_of}
use Rattle.snapshot_node.specs.Pivots.{IsLeast, Leads, IsMiddle, ComesAfter}
use Rattle.snapshot_node.proofs.Middles.{least_some, least_none}
use Rattle.snapshot_node.proofs.Comers.{none_after, after_with, after_without}
use Rattle.snapshot_node.proofs.validation.Validation.first_after.Goals as goal

pub returns-then-is_none : goal.returns-then-is_none
returns-then-is_none c =
    let v = c.args.self.now in
    let S = setup_of v.asked.facts.now in
    let H = events_of v.asked.facts.now in
    let n = v.asked.register.now.node.0 in
    let t = v.t.0 in
    none_after S H n t (least_none (Leads S H n t t) c.args.own.ahead _ refl (c.is_none.ensures ∙ ap not c.if-is_none.true) c.requires.ahead)

pub returns-then-is_some : goal.returns-then-is_some
returns-then-is_some c =
    let v = c.args.self.now in
    let S = setup_of v.asked.facts.now in
    let H = events_of v.asked.facts.now in
    let n = v.asked.register.now.node.0 in
    let t = v.t.0 in
    let e = least_some (Leads S H n t t) c.args.own.ahead _ refl (c.is_none.ensures ∙ ap not c.if-is_none.false) c.requires.ahead in
    subst (IsLeast (ComesAfter S H n t)) (sym c.lesser.ensures)
    (after_with S H n t e.0 e.1 _ v.t refl c.least_into-least.ensures (least_some (IsMiddle S H n t t) _ _ c.is_some.ensures c.if-is_some.true c.least_middle.ensures))

pub returns : goal.returns
returns c =
    let v = c.args.self.now in
    let S = setup_of v.asked.facts.now in
    let H = events_of v.asked.facts.now in
    let n = v.asked.register.now.node.0 in
    let t = v.t.0 in
    let e = least_some (Leads S H n t t) c.args.own.ahead _ refl (c.is_none.ensures ∙ ap not c.if-is_none.false) c.requires.ahead in
    after_without S H n t e.0 e.1 _ c.least_into-least.ensures (least_none (IsMiddle S H n t t) _ _ c.is_some.ensures c.if-is_some.false c.least_middle.ensures)
