use Rattle.std.proofs.Common.{◌∙◌, ℕ, not, refl, sym, ap, subst}
use Rattle.phase_api.specs.FactsView.{setup_of, events_of}
use Rattle.snapshot_node.specs.Pivots.{IsLeast, Leads, IsLeft, ComesIn, ComesBefore}
use Rattle.snapshot_node.proofs.Middles.{least_none, is_left, not_left}
use Rattle.snapshot_node.proofs.Comers.{least_with, least_without, none_before}
use Rattle.snapshot_node.proofs.validation.Validation.first_before.Goals as goal

pub returns-then-is_none : goal.returns-then-is_none
returns-then-is_none c =
    let v = c.args.self.now in
    let S = setup_of v.asked.facts.now in
    let H = events_of v.asked.facts.now in
    let n = v.asked.register.now.node.0 in
    let t = v.t.0 in
    none_before S H n t (least_none (λ (a : ℕ). Leads S H n t a t) c.args.own.behind _ refl (c.is_none.ensures ∙ ap not c.if-is_none.true) c.requires.behind)

pub returns-then-is_some : goal.returns-then-is_some
returns-then-is_some c =
    let v = c.args.self.now in
    let S = setup_of v.asked.facts.now in
    let H = events_of v.asked.facts.now in
    let n = v.asked.register.now.node.0 in
    let t = v.t.0 in
    subst (IsLeast (ComesBefore S H n t)) (sym c.lesser.ensures)
    (least_with (ComesIn S H n t) (λ (a : ℕ). Leads S H n t a t) (IsLeft S H n t t) _ _ (is_left S H n t t _ _ c.is_some.ensures c.if-is_some.true c.edge_out.ensures) c.least_before-least.ensures
    c.requires.behind)

pub returns : goal.returns
returns c =
    let v = c.args.self.now in
    let S = setup_of v.asked.facts.now in
    let H = events_of v.asked.facts.now in
    let n = v.asked.register.now.node.0 in
    let t = v.t.0 in
    least_without (ComesIn S H n t) (λ (a : ℕ). Leads S H n t a t) (IsLeft S H n t t) _ (not_left S H n t t _ _ c.is_some.ensures c.if-is_some.false c.edge_out.ensures) c.least_before-least.ensures
