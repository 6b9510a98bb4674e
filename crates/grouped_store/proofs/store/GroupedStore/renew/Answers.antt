use Rattle.std.proofs.Common.{refl}
use Rattle.grouped_store.proofs.Grouping.{each_tells, of_halves, on_renewed}
use Rattle.grouped_store.proofs.store.GroupedStore.renew.Goals as goal

pub invariant_of-self : goal.invariant_of-self
invariant_of-self g c =
    let d = g.D.Disk in
    let s = c.self.inside in
    let o = c.replace_with.ensures in
    on_renewed d.seen d.may_leave (of_halves s.queue s.journal) c.self.invariant (of_halves s.queue c.replace_with.new.dest) refl refl o.0 o.1.0 refl

pub returns-clause-images : goal.returns-clause-images
returns-clause-images g c =
    let d = g.D.Disk in
    let s = c.self.inside in
    let o = c.replace_with.ensures in
    let new = of_halves s.queue c.replace_with.new.dest in
    each_tells d.seen d.may_leave new (on_renewed d.seen d.may_leave (of_halves s.queue s.journal) c.self.invariant new refl refl o.0 o.1.0 refl)
