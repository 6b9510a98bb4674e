use Rattle.std.proofs.Common.{◌≡◌, ◌+◌, List, length, sym, ◌∙◌, ap, arith}
use Rattle.record_journal.specs.Format.{Record}
use Rattle.commit_laws.specs.Commits.{commit_count}
use Rattle.engine_core.specs.EngineModel.{EngineModel}
use Rattle.tebaldi_c.specs.Shelves.{Filed}
use Rattle.tebaldi_c.proofs.Files.{none_waits}
use Rattle.tebaldi_c.proofs.filed.FileStore.forget_calls.Goals as goal

pub invariant_of-self : goal.invariant_of-self
invariant_of-self c =
    let s = c.self.inside in
    let new = c.renew.new.self in
    let was = c.renew.ensures in
    let settled = c.self.invariant.settled (ap (λ (f : Filed). f.file.waiting) c.self.view_is ∙ c.requires.settled) in
    none_waits new.engine (record { journal = new.journal; gathered = new.waiting; waiting = s.waiting; opened = s.opened; kept = s.kept; failed = s.failed })
    (ap (λ (f : Filed). f.file.waiting) c.self.view_is ∙ c.requires.settled) settled.0
    (settled.1 ∙ sym was.same.1) was.images
    (λ runs. omega (arith, c.self.invariant.all (sym was.same.2 ∙ runs), was.same.1, ap (λ (rs : List Record). length rs) was.waiting, ap (λ (e : EngineModel). commit_count e.events) was.engine))
    (record { no_stop = was.stop ∙ c.self.invariant.disk.no_stop; granted = was.refusals ∙ c.self.invariant.disk.granted })
