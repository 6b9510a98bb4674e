use Rattle.std.proofs.Common.{refl, sym, subst}
use Rattle.epoch_journal.specs.State.{JournalState}
use Rattle.epoch_journal.specs.Kept.{Keeps}
use Rattle.epoch_journal.proofs.Telling.{keeps_stopped}
use Rattle.epoch_journal.proofs.journal.EpochJournal.stop.Goals as goal

pub returns-clause-not_added : goal.returns-clause-not_added
returns-clause-not_added g c start all more least kept =
    let d = g.D.Disk in
    keeps_stopped d.seen d.may_leave start all more least _ _ refl refl refl (subst (λ (s : JournalState _). Keeps d.seen d.may_leave start all least s) (sym c.self.view_is) kept)
