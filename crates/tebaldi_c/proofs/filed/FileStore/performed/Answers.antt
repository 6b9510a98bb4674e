use Rattle.std.proofs.Common.{rules, ◌-◌, ◌<◌, true, refl, arith}
use Rattle.tebaldi_c.proofs.Files.{none_waits, one_fewer}
use Rattle.tebaldi_c.proofs.filed.FileStore.performed.Goals as goal

pub invariant_of-self : goal.invariant_of-self
invariant_of-self c =
    let s = c.self.inside in
    let some : 0 < s.waiting - 1 = search rules in
    one_fewer s.store.engine
    (record { journal = s.store.journal; gathered = s.store.waiting; waiting = s.waiting; opened = s.opened; kept = s.kept; failed = s.failed })
    (record { journal = s.store.journal; gathered = s.store.waiting; waiting = s.waiting - 1; opened = s.opened; kept = s.kept; failed = s.failed })
    c.self.invariant refl refl refl refl (omega (arith, some)) some

pub invariant_of-self-2 : goal.invariant_of-self-2
invariant_of-self-2 c =
    let s = c.self.inside in
    none_waits s.store.engine
    (record { journal = s.store.journal; gathered = s.store.waiting; waiting = 0; opened = true; kept = c.acknowledged-kept.result; failed = s.failed })
    refl refl c.acknowledged-kept.ensures c.disk.ensures.images c.self.invariant.all c.self.invariant.disk
