use Rattle.std.proofs.Common.{◌∙◌, get_or, sym, refl}
use Rattle.std.proofs.lemmas.List.{get_or_default}
use Rattle.audit_check.specs.declared.line.Line.TheVariants.{End}
use Rattle.audit_check.specs.Faults.{wrong_read}
use Rattle.audit_check.specs.Views.{views}
use Rattle.audit_check.proofs.FirstLines.{no_lines, right_line, wrong_line}
use Rattle.audit_check.proofs.reads.first_wrong.Goals as goal

pub loop-i-init : goal.loop-i-init
loop-i-init c = no_lines (wrong_read (views c.args.lines.now))

pub returns-then-marked : goal.returns-then-marked
returns-then-marked c =
    let lines = c.args.lines.now in
    let i = c.loop-i.i in
    let line = get_or lines i End in
    rw c.no.ensures (
      wrong_line (wrong_read (views lines)) lines i line c.loop-i-test.true (get_or_default lines i End line c.loop-i-test.true) c.loop-i.invariant
          (sym (c.requires.told i c.loop-i-test.true) ∙ sym c.marked.ensures ∙ c.if-marked.true),
      refl,
    )

pub loop-i-preserved : goal.loop-i-preserved
loop-i-preserved c =
    let lines = c.args.lines.now in
    let i = c.loop-i.i in
    let line = get_or lines i End in
    right_line (wrong_read (views lines)) lines i line c.loop-i-test.true (get_or_default lines i End line c.loop-i-test.true) c.loop-i.invariant
    (sym (c.requires.told i c.loop-i-test.true) ∙ sym c.marked.ensures ∙ c.if-marked.false)
