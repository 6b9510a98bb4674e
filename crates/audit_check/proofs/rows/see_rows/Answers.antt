use Rattle.std.proofs.Common.{◌≡◌, ◌∙◌, sym, refl, true, false, take}
use Rattle.std.proofs.lemmas.Bool.{not-false, not-true}
use Rattle.audit_check.specs.Faults.{wrong_row}
use Rattle.audit_check.specs.Views.{views, line_view}
use Rattle.audit_check.proofs.FirstLines.{views_next, right_line, wrong_line, no_lines}
use Rattle.audit_check.proofs.RowSteps.{none_seen}
use Rattle.audit_check.proofs.rows.see_rows.Goals as goal

pub loop-i-init : goal.loop-i-init
loop-i-init c = record { seen = none_seen _ c.requires.none; none = no_lines (wrong_row (views c.args.lines.now)) }

pub loop-i-preserved : goal.loop-i-preserved
loop-i-preserved c =
    let lines = c.args.lines.now in
    let i = c.loop-i.i in
    let line = c.index-lines-i.result in
    let past = views (take i lines) in
    let right : wrong_row (views lines) past (line_view line) ≡ false = not-true _ (sym (c.is_right.ensures past c.loop-i.invariant.seen) ∙ c.if-not-is_right.false) in
    record {
      seen = rw (views_next lines i line c.loop-i-test.true c.index-lines-i.is) (c.in_ok-see.ensures past c.loop-i.invariant.seen);
      none = right_line (wrong_row (views lines)) lines i line c.loop-i-test.true c.index-lines-i.is c.loop-i.invariant.none right;
    }

pub returns-then-not-is_right : goal.returns-then-not-is_right
returns-then-not-is_right c =
    let lines = c.args.lines.now in
    let past = views (take c.loop-i.i lines) in
    let bad : wrong_row (views lines) past (line_view c.index-lines-i.result) ≡ true = not-false _ (sym (c.is_right.ensures past c.loop-i.invariant.seen) ∙ c.if-not-is_right.true) in
    rw c.no.ensures (wrong_line (wrong_row (views lines)) lines c.loop-i.i c.index-lines-i.result c.loop-i-test.true c.index-lines-i.is c.loop-i.invariant.none bad, refl)
