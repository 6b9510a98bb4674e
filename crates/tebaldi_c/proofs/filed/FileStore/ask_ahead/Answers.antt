use Rattle.std.proofs.Common.{refl}
use Rattle.tebaldi_c.proofs.Files.{goes_ahead}
use Rattle.tebaldi_c.proofs.filed.FileStore.ask_ahead.Goals as goal

pub invariant_of-self-then-self-eq0 : goal.invariant_of-self-then-self-eq0
invariant_of-self-then-self-eq0 c =
    let s = c.self.inside in
    let new = c.ask_ahead.new.self in
    goes_ahead s.store.engine new.engine
    (record { journal = s.store.journal; gathered = s.store.waiting; waiting = s.waiting; opened = s.opened; kept = s.kept; failed = s.failed })
    (record { journal = new.journal; gathered = new.waiting; waiting = s.waiting; opened = s.opened; kept = s.kept; failed = s.failed })
    c.self.invariant c.ask_ahead.ensures.untouched refl refl refl c.ask_ahead.ensures.still c.ask_ahead.ensures.all

pub invariant_of-self-else-self-eq0 : goal.invariant_of-self-else-self-eq0
invariant_of-self-else-self-eq0 c =
    let s = c.self.inside in
    let new = c.ask_ahead.new.self in
    goes_ahead s.store.engine new.engine
    (record { journal = s.store.journal; gathered = s.store.waiting; waiting = s.waiting; opened = s.opened; kept = s.kept; failed = s.failed })
    (record { journal = new.journal; gathered = new.waiting; waiting = s.waiting; opened = s.opened; kept = s.kept; failed = s.failed })
    c.self.invariant c.ask_ahead.ensures.untouched refl refl refl c.ask_ahead.ensures.still c.ask_ahead.ensures.all
