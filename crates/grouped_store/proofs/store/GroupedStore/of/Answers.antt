use Rattle.grouped_store.proofs.Grouping.{none_waits, of_halves}
use Rattle.grouped_store.proofs.store.GroupedStore.of.Goals as goal

pub invariant_of-result : goal.invariant_of-result
invariant_of-result g c =
    let d = g.D.Disk in
    let o = c.split-queue in
    none_waits d.seen d.may_leave (of_halves o.result.0 o.result.1)
    c.args.store.engine c.args.store.journal o.ensures.engine o.ensures.journal o.ensures.none o.ensures.kept c.requires.all o.ensures.label (λ _. o.ensures.left)
