use Rattle.std.proofs.Common.{◌∙◌, Bool, List, ap}
use Rattle.audit_check.specs.Marks.{is_marked}
use Rattle.audit_check.proofs.TxnSteps.{is_open}
use Rattle.audit_check.proofs.txns.is_open.Goals as goal

pub returns : goal.returns
returns c = λ past kept.
    c.is_unfinished.ensures
    ∙ is_open _ _ _ past kept c.args.txn _ _ _ c.has_begun-begun.ensures
    (c.marked-done.ensures ∙ ap (λ (bs : List Bool). is_marked bs c.args.txn) c.deref.ensures.value)
    (c.marked-gone.ensures ∙ ap (λ (bs : List Bool). is_marked bs c.args.txn) c.deref-2.ensures.value)
