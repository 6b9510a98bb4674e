use Rattle.std.proofs.Common.{◌≡◌, ◌∙◌, sym, refl, true, false, take}
use Rattle.std.proofs.lemmas.Bool.{not-false, not-true}
use Rattle.audit_check.specs.Faults.{wrong_order}
use Rattle.audit_check.specs.Views.{views, line_view}
use Rattle.audit_check.proofs.FirstLines.{right_line, wrong_line, no_lines}
use Rattle.audit_check.proofs.commits.check_order.Goals as goal

pub loop-i-init : goal.loop-i-init
loop-i-init c = no_lines (wrong_order (views c.args.lines.now))

pub loop-i-preserved : goal.loop-i-preserved
loop-i-preserved c =
    let H = views c.args.lines.now in
    let past = views (take c.loop-i.i c.args.lines.now) in
    let right : wrong_order H past (line_view c.index-lines-i.result) ≡ false = not-true _ (sym (c.in_ok-is_right.ensures past) ∙ c.if-not-branch.false) in
    right_line (wrong_order H) c.args.lines.now c.loop-i.i c.index-lines-i.result c.loop-i-test.true c.index-lines-i.is c.loop-i.invariant right

pub returns-then-not-branch : goal.returns-then-not-branch
returns-then-not-branch c =
    let H = views c.args.lines.now in
    let past = views (take c.loop-i.i c.args.lines.now) in
    let bad : wrong_order H past (line_view c.index-lines-i.result) ≡ true = not-false _ (sym (c.in_ok-is_right.ensures past) ∙ c.if-not-branch.true) in
    rw c.no.ensures (wrong_line (wrong_order H) c.args.lines.now c.loop-i.i c.index-lines-i.result c.loop-i-test.true c.index-lines-i.is c.loop-i.invariant bad, refl)
