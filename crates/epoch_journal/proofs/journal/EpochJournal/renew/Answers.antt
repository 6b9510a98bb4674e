use Rattle.std.proofs.Common.{◌∷◌, sym, subst, List, ℕ}
use Rattle.epoch_journal.specs.Layout.{layout}
use Rattle.epoch_journal.specs.Halves.{IsResting}
use Rattle.epoch_journal.specs.State.{JournalState}
use Rattle.epoch_journal.specs.Telling.{checkpoint_of}
use Rattle.epoch_journal.specs.Kept.{Keeps}
use Rattle.epoch_journal.proofs.Telling.{runs}
use Rattle.epoch_journal.proofs.journal.EpochJournal.renew.Goals as goal

pub returns-in-Ok-clause-kept : goal.returns-in-Ok-clause-kept
returns-in-Ok-clause-kept g c start all least kept =
    let d = g.D.Disk in
    let was = c.self.inside in
    let keeps = subst (λ (s : JournalState _). Keeps d.seen d.may_leave start all least s) (sym c.self.view_is) kept in
    let run = keeps.running c.if-self.false in
    let l = layout was.capacity was.label.items in
    runs d.seen d.may_leave start all least _ c.self.invariant.within (keeps.all_safe c.if-self.false) (record {
      past = run.past;
      asked = run.asked;
      rows = run.rows;
      split = run.split;
      checkpoint = run.checkpoint;
      resting = subst (λ (f : List ℕ). IsResting l was.place.half (checkpoint_of run.rows ∷ run.asked) was.place.end f) (sym c.in-Ok.ensures.seen) run.resting;
      durable = c.in-Ok.ensures.durable;
    })
