use Rattle.std.proofs.Common.{◌≡◌, ◌∙◌, sym, refl, true, false, take}
use Rattle.std.proofs.lemmas.Bool.{not-false, not-true}
use Rattle.audit_check.specs.Faults.{wrong_txn}
use Rattle.audit_check.specs.Views.{views, line_view}
use Rattle.audit_check.proofs.FirstLines.{views_next, right_line, wrong_line, no_lines}
use Rattle.audit_check.proofs.TxnSteps.{stands_none}
use Rattle.audit_check.proofs.txns.check_txns.Goals as goal

pub loop-i-init : goal.loop-i-init
loop-i-init c = record { kept = stands_none _ _ _ refl c.new.ensures.items c.new-2.ensures.items; none = no_lines wrong_txn }

pub loop-i-preserved : goal.loop-i-preserved
loop-i-preserved c =
    let lines = c.args.lines.now in
    let i = c.loop-i.i in
    let line = c.index-lines-i.result in
    let past = views (take i lines) in
    let right : wrong_txn past (line_view line) ≡ false = not-true _ (sym (c.is_right.ensures past c.loop-i.invariant.kept) ∙ c.if-not-is_right.false) in
    record {
      kept = rw (views_next lines i line c.loop-i-test.true c.index-lines-i.is) (c.in_ok-take.ensures past right c.loop-i.invariant.kept);
      none = right_line wrong_txn lines i line c.loop-i-test.true c.index-lines-i.is c.loop-i.invariant.none right;
    }

pub returns-then-not-is_right : goal.returns-then-not-is_right
returns-then-not-is_right c =
    let past = views (take c.loop-i.i c.args.lines.now) in
    let bad : wrong_txn past (line_view c.index-lines-i.result) ≡ true = not-false _ (sym (c.is_right.ensures past c.loop-i.invariant.kept) ∙ c.if-not-is_right.true) in
    rw c.no.ensures (wrong_line wrong_txn c.args.lines.now c.loop-i.i c.index-lines-i.result c.loop-i-test.true c.index-lines-i.is c.loop-i.invariant.none bad, refl)
