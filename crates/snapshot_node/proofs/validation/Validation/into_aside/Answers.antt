use Rattle.std.proofs.Common.{◌∙◌, sym, ap}
use Rattle.batch_book.proofs.Numbered.{unfinished_parts}
use Rattle.phase_api.specs.FactsView.{setup_of, events_of}
use Rattle.snapshot_node.specs.declared.marks.Mark.{Mark}
use Rattle.snapshot_node.specs.Validating.{may_be_led_to}
use Rattle.snapshot_node.proofs.Known.{into_known, into_none, into_own}
use Rattle.snapshot_node.proofs.Nearness.{led_to_only, entered_only}
use Rattle.snapshot_node.proofs.validation.Validation.into_aside.Goals as goal

pub returns-then-mark_of : goal.returns-then-mark_of
returns-then-mark_of c =
    let v = c.args.self.now in
    let S = setup_of v.asked.facts.now in
    let H = events_of v.asked.facts.now in
    let n = v.asked.register.now.node.0 in
    into_known S H n v.t c.args.c.0 (may_be_led_to v)
    (led_to_only S H n v.t.0 v.lawful v.asked.stands.orderly (unfinished_parts H v.t.0 v.unfinished).2 v.tree v.asked.stands.kind v.marks.now v.marked) _ c.known_into.ensures

pub returns-then-not-are_one_batch : goal.returns-then-not-are_one_batch
returns-then-not-are_one_batch c =
    let v = c.args.self.now in
    let S = setup_of v.asked.facts.now in
    let H = events_of v.asked.facts.now in
    let n = v.asked.register.now.node.0 in
    let mine = entered_only S H n v.t.0 v.lawful v.asked.stands.orderly (unfinished_parts H v.t.0 v.unfinished).2 v.tree v.asked.stands.kind v.marks.now v.marked c.args.c.0
    (ap (λ (m : Mark). m.entered) (sym c.mark_of.ensures) ∙ c.if-mark_of.false) in
    into_none S H n v.t c.args.c.0 mine (sym c.are_one_batch.ensures ∙ c.if-not-are_one_batch.true)

pub returns : goal.returns
returns c =
    let v = c.args.self.now in
    let S = setup_of v.asked.facts.now in
    let H = events_of v.asked.facts.now in
    let n = v.asked.register.now.node.0 in
    let mine = entered_only S H n v.t.0 v.lawful v.asked.stands.orderly (unfinished_parts H v.t.0 v.unfinished).2 v.tree v.asked.stands.kind v.marks.now v.marked c.args.c.0
    (ap (λ (m : Mark). m.entered) (sym c.mark_of.ensures) ∙ c.if-mark_of.false) in
    into_own S H n v.t c.args.c.0 mine _ (sym c.are_one_batch.ensures ∙ c.if-not-are_one_batch.false) c.requires.own.behind
