use Rattle.std.proofs.Common.{◌≡◌, ◌∙◌, ap, subst, sym}
use Rattle.epoch_journal.specs.Refusals.{IsReliable}
use Rattle.epoch_journal.specs.State.{JournalState}
use Rattle.grouped_store.specs.Grouped.{Grouped}
use Rattle.grouped_store.proofs.Grouping.{images_of, keeps_all, moment_of_old, of_halves}
use Rattle.grouped_store.proofs.store.asked.Goals as goal

pub join-whole-requires-clause-kept : goal.join-whole-requires-clause-kept
join-whole-requires-clause-kept g c =
    let d = g.D.Disk in
    let s = c.store.inside in
    keeps_all d.seen d.may_leave (of_halves s.queue s.journal) c.store.invariant (ap (λ (v : Grouped _). v.waiting) c.store.view_is ∙ c.requires.none)

pub returns-clause-any_moment : goal.returns-clause-any_moment
returns-clause-any_moment g c =
    let d = g.D.Disk in
    let was = c.join-whole.result in
    let now = c.ask-answered.new.self in
    let new = c.of.result in
    let before = c.join-whole.ensures.1 ∙ ap (λ (v : Grouped _). v.journal) c.store.view_is in
    moment_of_old d.moment d.left_since now.engine new.engine was.journal c.args.store.journal now.journal new.journal c.of.ensures.0 before c.of.ensures.1 c.ask-answered.ensures.any_moment

pub returns-clause-images : goal.returns-clause-images
returns-clause-images g c =
    let now = c.ask-answered.new.self in
    images_of g.D.Disk.may_leave now.engine c.of.result.engine now.journal c.of.result.journal c.of.ensures.0 c.of.ensures.1 c.ask-answered.ensures.images

pub returns-clause-sure : goal.returns-clause-sure
returns-clause-sure g c reliable is =
    let d = g.D.Disk in
    let was : c.join-whole.result.journal ≡ c.args.store.journal = c.join-whole.ensures.1 ∙ ap (λ (v : Grouped _). v.journal) c.store.view_is in
    c.ask-answered.ensures.sure (subst (λ (j : JournalState _). IsReliable d.tells_failures d.tally d.refusals j.disk) (sym was) reliable) is
