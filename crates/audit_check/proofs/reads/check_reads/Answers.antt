use Rattle.std.proofs.Common.{◌∙◌, Bool, List, ap}
use Rattle.audit_check.specs.Marks.{is_marked}
use Rattle.audit_check.proofs.ReadSteps.{told_all}
use Rattle.audit_check.proofs.reads.check_reads.Goals as goal

pub first_wrong-requires-clause-told : goal.first_wrong-requires-clause-told
first_wrong-requires-clause-told c = λ i within.
    ap (λ (bs : List Bool). is_marked bs i) c.deref.ensures.value ∙ told_all c.args.lines.now c.in_ok-replay.replay.table.values.entries c.in_ok-replay.replay.wrong.items i
    c.in_ok-replay.ensures.replays within
