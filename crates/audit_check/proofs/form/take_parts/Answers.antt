use Rattle.std.proofs.Common.{◌≡◌, ◌∙◌, ◌+◌, ◌-◌, ◌<◌, sym, ap, refl, rules, arith, true, false, length}
use Rattle.std.specs.Prelude.{Err}
use Rattle.audit_check.specs.Lines.{items_from}
use Rattle.audit_check.specs.Views.{views, nows}
use Rattle.audit_check.proofs.FormSteps.{line_taken, line_refused, text_over_at, text_cut_at, taken_length}
use Rattle.audit_check.proofs.FirstLines.{views_length}
use Rattle.audit_check.proofs.form.take_parts.Goals as goal

pub loop-i-init : goal.loop-i-init
loop-i-init c = record {
  cells = rw c.requires.first c.requires.cells;
  count = ap (λ l. length (views l)) c.requires.first;
  rest = ap (λ l. items_from (views l) (nows c.args.parts.now)) c.requires.first;
}

pub returns-then-not-branch-clause-lines : goal.returns-then-not-branch-clause-lines
returns-then-not-branch-clause-lines c =
    let refused : c.in_ok-take_part.field-0 ≡ false = search rules in
    let more : c.loop-i.i + 1 < length c.args.parts.now = omega (arith, c.loop-i-test.true) in
    rw c.no.ensures (
      sym c.loop-i.invariant.rest ∙ line_refused c.args.parts.now c.loop-i.i _ _ (views c.take_part.new.lines.items) _ more c.in_ok-take_part.ensures.fits refused
          ∙ ap (λ n. Err (n + 1)) c.loop-i.invariant.count,
      refl,
    )

pub loop-i-preserved : goal.loop-i-preserved
loop-i-preserved c =
    let taken : c.in_ok-take_part.field-0 ≡ true = search rules in
    let more : c.loop-i.i + 1 < length c.args.parts.now = omega (arith, c.loop-i-test.true) in
    record {
      cells = c.in_ok-take_part.ensures.kept taken;
      count = omega (arith, c.loop-i.invariant.count, taken_length _ _ _ _ c.in_ok-take_part.ensures.fits taken);
      rest = line_taken c.args.parts.now c.loop-i.i _ _ (views c.take_part.new.lines.items) _ more c.in_ok-take_part.ensures.fits taken ∙ c.loop-i.invariant.rest;
    }

pub returns-then-is_over-clause-lines : goal.returns-then-is_over-clause-lines
returns-then-is_over-clause-lines c =
    let at : c.loop-i.i ≡ length c.args.parts.now - 1 = omega (arith, c.loop-i-test.false, c.loop-i.auto.i-end) in
    let last : length c.args.parts.now - 1 + 1 ≡ length c.args.parts.now = omega (arith, c.requires.some) in
    sym c.loop-i.invariant.rest ∙ text_over_at c.args.parts.now c.loop-i.i (length c.args.parts.now - 1) _ _ at last (rw c.deref.ensures.value at (sym c.is_over.ensures ∙ c.if-is_over.true))

pub returns-then-is_over-clause-few : goal.returns-then-is_over-clause-few
returns-then-is_over-clause-few c = omega (arith, c.loop-i.invariant.count, views_length c.loop-i.lines.items, c.loop-i.auto.i-end, c.requires.some)

pub returns-else-is_over-clause-lines : goal.returns-else-is_over-clause-lines
returns-else-is_over-clause-lines c =
    let at : c.loop-i.i ≡ length c.args.parts.now - 1 = omega (arith, c.loop-i-test.false, c.loop-i.auto.i-end) in
    let last : length c.args.parts.now - 1 + 1 ≡ length c.args.parts.now = omega (arith, c.requires.some) in
    rw c.no-else-is_over.ensures (
      sym c.loop-i.invariant.rest ∙ text_cut_at c.args.parts.now c.loop-i.i (length c.args.parts.now - 1) _ _ at last (rw c.deref.ensures.value at (sym c.is_over.ensures ∙ c.if-is_over.false))
          ∙ ap (λ n. Err (n + 1)) (c.loop-i.invariant.count ∙ at),
      refl,
    )
