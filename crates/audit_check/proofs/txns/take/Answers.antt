use Rattle.std.proofs.lemmas.Result.{on_ok_weaker}
use Rattle.audit_check.proofs.TxnSteps.{begun_stands, done_stands, gone_stands, same_stands, same_line}
use Rattle.audit_check.proofs.txns.take.Goals as goal

pub returns-in-Began : goal.returns-in-Began
returns-in-Began c = λ past right kept. rw c.in-Began.is (begun_stands _ _ _ past kept c.in-Began.txn (rw c.in-Began.is at right))

pub returns-in-Done : goal.returns-in-Done
returns-in-Done c = on_ok_weaker c.mark.result (λ marks past right kept. rw c.in-Done.is (done_stands _ _ _ past kept c.in-Done.txn c.mark.new.marks.items marks)) c.mark.ensures

pub returns-in-Gone : goal.returns-in-Gone
returns-in-Gone c = on_ok_weaker c.mark-in-Gone.result (λ marks past right kept. rw c.in-Gone.is (gone_stands _ _ _ past kept c.in-Gone.txn c.mark-in-Gone.new.marks.items marks))
    c.mark-in-Gone.ensures

pub returns-in_default : goal.returns-in_default
returns-in_default c = λ past right kept. same_stands _ _ _ past kept _ (same_line c.args.line.now c.in_default.not-Began c.in_default.not-Done c.in_default.not-Gone)
