use Rattle.std.proofs.Common.{◌≡◌, Err, ap, subst, List, ℕ}
use Rattle.epoch_journal.specs.declared.error.OpenError.TheVariants as errors
use Rattle.epoch_journal.specs.Layout.{layout}
use Rattle.epoch_journal.specs.Read.{HasOtherCapacity, IsDamaged}
use Rattle.epoch_journal.proofs.recovering.read_disk.Goals as goal

pub returns-in-Err-clause-damaged : goal.returns-in-Err-clause-damaged
returns-in-Err-clause-damaged g c at is =
    let same : c.in-Err.error ≡ errors.Damaged at = cc is in
    let l = layout c.args.capacity c.args.label.now in
    subst (λ (f : List ℕ). IsDamaged l at f) c.settled_len.ensures.quiet.same (c.in-Err.ensures.damaged c.args.label.now at (ap Err same))

pub returns-in-Err-clause-other_capacity : goal.returns-in-Err-clause-other_capacity
returns-in-Err-clause-other_capacity g c is =
    let same : c.in-Err.error ≡ errors.OtherCapacity = cc is in
    let l = layout c.args.capacity c.args.label.now in
    subst (λ (f : List ℕ). HasOtherCapacity l f) c.settled_len.ensures.quiet.same (c.in-Err.ensures.other_capacity c.args.label.now (ap Err same))
