use Rattle.std.proofs.Common.{◌∙◌, sym, ap, subst}
use Rattle.std.proofs.lemmas.Bool.{both_ways}
use Rattle.batch_book.proofs.Numbered.{unfinished_parts}
use Rattle.phase_api.specs.FactsView.{setup_of, events_of}
use Rattle.snapshot_node.specs.declared.marks.Mark.{Mark}
use Rattle.snapshot_node.specs.Pivots.{IsLeast, Leads}
use Rattle.snapshot_node.specs.Validating.{may_lead}
use Rattle.snapshot_node.proofs.Known.{aside_known, aside_none, aside_own}
use Rattle.snapshot_node.proofs.Nearness.{leads_only, left_only}
use Rattle.snapshot_node.proofs.validation.Validation.edge_aside.Goals as goal

pub returns-then-mark_of : goal.returns-then-mark_of
returns-then-mark_of c =
    let v = c.args.self.now in
    let S = setup_of v.asked.facts.now in
    let H = events_of v.asked.facts.now in
    let n = v.asked.register.now.node.0 in
    aside_known S H n v.t c.args.b.0 (may_lead v) (leads_only S H n v.t.0 v.lawful v.asked.stands.orderly (unfinished_parts H v.t.0 v.unfinished).2 v.tree v.asked.stands.kind v.marks.now v.marked) _
    c.known_edge_out.ensures

pub returns-then-not-are_one_batch : goal.returns-then-not-are_one_batch
returns-then-not-are_one_batch c =
    let v = c.args.self.now in
    let S = setup_of v.asked.facts.now in
    let H = events_of v.asked.facts.now in
    let n = v.asked.register.now.node.0 in
    let mine = left_only S H n v.t.0 v.lawful v.asked.stands.orderly (unfinished_parts H v.t.0 v.unfinished).2 v.tree v.asked.stands.kind v.marks.now v.marked c.args.b.0
    (ap (λ (m : Mark). m.left) (sym c.mark_of.ensures) ∙ c.if-mark_of.false) in
    aside_none S H n v.t c.args.b.0 mine (λ d e. both_ways _ (sym c.are_one_batch.ensures ∙ c.if-not-are_one_batch.true) e.batch)

pub returns-in-None : goal.returns-in-None
returns-in-None c =
    let v = c.args.self.now in
    let S = setup_of v.asked.facts.now in
    let H = events_of v.asked.facts.now in
    let n = v.asked.register.now.node.0 in
    let mine = left_only S H n v.t.0 v.lawful v.asked.stands.orderly (unfinished_parts H v.t.0 v.unfinished).2 v.tree v.asked.stands.kind v.marks.now v.marked c.args.b.0
    (ap (λ (m : Mark). m.left) (sym c.mark_of.ensures) ∙ c.if-mark_of.false) in
    let none = subst (IsLeast (Leads S H n v.t.0 v.t.0)) c.in-None.is c.requires.own.ahead in
    aside_none S H n v.t c.args.b.0 mine (λ d e. none d e.out)

pub returns-in-Some : goal.returns-in-Some
returns-in-Some c =
    let v = c.args.self.now in
    let S = setup_of v.asked.facts.now in
    let H = events_of v.asked.facts.now in
    let n = v.asked.register.now.node.0 in
    let mine = left_only S H n v.t.0 v.lawful v.asked.stands.orderly (unfinished_parts H v.t.0 v.unfinished).2 v.tree v.asked.stands.kind v.marks.now v.marked c.args.b.0
    (ap (λ (m : Mark). m.left) (sym c.mark_of.ensures) ∙ c.if-mark_of.false) in
    aside_own S H n v.t c.args.b.0 mine c.in-Some.d (sym c.are_one_batch.ensures ∙ c.if-not-are_one_batch.false) (subst (IsLeast (Leads S H n v.t.0 v.t.0)) c.in-Some.is c.requires.own.ahead)
