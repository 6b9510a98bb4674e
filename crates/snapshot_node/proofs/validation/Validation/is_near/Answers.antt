use Rattle.std.proofs.Common.{◌∙◌, ℕ, sym, ap, subst}
use Rattle.phase_api.specs.FactsView.{setup_of, events_of}
use Rattle.batch_book.proofs.Numbered.{unfinished_parts}
use Rattle.snapshot_node.specs.declared.marks.Mark.{Mark}
use Rattle.snapshot_node.specs.Pivots.{IsLeast, Leads}
use Rattle.snapshot_node.proofs.Nearness.{none_alone, none_ahead, none_behind}
use Rattle.snapshot_node.proofs.validation.Validation.is_near.Goals as goal

pub returns-else-mark_of : goal.returns-else-mark_of
returns-else-mark_of c h =
    let v = c.args.self.now in
    let S = setup_of v.asked.facts.now in
    let H = events_of v.asked.facts.now in
    let n = v.asked.register.now.node.0 in
    let t = v.t.0 in
    none_ahead S H n t v.lawful v.asked.stands.orderly (unfinished_parts H t v.unfinished).2 v.tree v.asked.stands.kind v.marks.now v.marked
    (subst (IsLeast (λ (a : ℕ). Leads S H n t a t)) c.in-Some-None.is-1 c.requires.behind)
    (ap (λ (m : Mark). m.entered) (sym c.mark_of.ensures) ∙ c.if-mark_of.false) (c.requires.left h)

pub returns-else-mark_of-2 : goal.returns-else-mark_of-2
returns-else-mark_of-2 c h =
    let v = c.args.self.now in
    let S = setup_of v.asked.facts.now in
    let H = events_of v.asked.facts.now in
    let n = v.asked.register.now.node.0 in
    let t = v.t.0 in
    none_behind S H n t v.lawful v.asked.stands.orderly (unfinished_parts H t v.unfinished).2 v.tree v.asked.stands.kind v.marks.now v.marked
    (subst (IsLeast (Leads S H n t t)) c.in-None-Some.is-0 c.requires.ahead)
    (ap (λ (m : Mark). m.left) (sym c.mark_of-in-None-Some.ensures) ∙ c.if-mark_of-2.false) (c.requires.entered h)

pub returns-in-None-None : goal.returns-in-None-None
returns-in-None-None c h =
    let v = c.args.self.now in
    let S = setup_of v.asked.facts.now in
    let H = events_of v.asked.facts.now in
    let n = v.asked.register.now.node.0 in
    let t = v.t.0 in
    none_alone S H n t v.lawful v.asked.stands.orderly (unfinished_parts H t v.unfinished).2 v.tree v.asked.stands.kind v.marks.now v.marked
    (subst (IsLeast (Leads S H n t t)) c.in-None-None.is-0 c.requires.ahead)
    (subst (IsLeast (λ (a : ℕ). Leads S H n t a t)) c.in-None-None.is-1 c.requires.behind)
