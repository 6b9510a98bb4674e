use Rattle.std.proofs.Common.{◌≡◌, ◌∙◌, ap, subst}
use Rattle.engine_core.specs.EngineModel.{EngineModel}
use Rattle.epoch_journal.specs.State.{JournalState}
use Rattle.engine_store.specs.Next.{IsCause}
use Rattle.grouped_store.specs.Grouped.{Grouped}
use Rattle.grouped_store.proofs.Grouping.{acknowledged_in_whole, all_after, images_of, keeps_all, moment_of_new, of_halves}
use Rattle.grouped_store.proofs.store.begun.Goals as goal

pub join-whole-requires-clause-kept : goal.join-whole-requires-clause-kept
join-whole-requires-clause-kept g c =
    let d = g.D.Disk in
    let s = c.store.inside in
    keeps_all d.seen d.may_leave (of_halves s.queue s.journal) c.store.invariant (ap (λ (v : Grouped _). v.waiting) c.store.view_is ∙ c.requires.none)

pub of-store-requires : goal.of-store-requires
of-store-requires g c =
    let d = g.D.Disk in
    let s = c.store.inside in
    let whole = c.join-whole in
    let none = ap (λ (v : Grouped _). v.waiting) c.store.view_is ∙ c.requires.none in
    let before = acknowledged_in_whole d.seen d.may_leave (of_halves s.queue s.journal) c.store.invariant whole.result whole.ensures.0 whole.ensures.1 none in
    let o = c.begin_epoch-begun in
    record { all = all_after c.args.next.1 o.result whole.result o.new.self before o.ensures.begun o.ensures.running o.ensures.kept o.ensures.fault }

pub returns-in-Ok-clause-any_moment_next : goal.returns-in-Ok-clause-any_moment_next
returns-in-Ok-clause-any_moment_next g c =
    let d = g.D.Disk in
    let was = c.join-whole.result in
    let now = c.begin_epoch-begun.new.self in
    let new = c.of-store.result in
    let before = c.join-whole.ensures.1 ∙ ap (λ (v : Grouped _). v.journal) c.store.view_is in
    moment_of_new d.moment d.left_since now.engine new.engine was.journal c.args.store.journal now.journal new.journal c.of-store.ensures.0 before c.of-store.ensures.1 c.in-Ok.ensures.any_moment_next

pub returns-in-Ok-clause-images : goal.returns-in-Ok-clause-images
returns-in-Ok-clause-images g c =
    let now = c.begin_epoch-begun.new.self in
    let o = c.of-store in
    images_of g.D.Disk.may_leave now.engine o.result.engine now.journal o.result.journal o.ensures.0 o.ensures.1 c.begin_epoch-begun.ensures.images

pub returns-in-Err-clause-images : goal.returns-in-Err-clause-images
returns-in-Err-clause-images g c =
    let now = c.begin_epoch-begun.new.self in
    let o = c.of-store in
    images_of g.D.Disk.may_leave now.engine o.result.engine now.journal o.result.journal o.ensures.0 o.ensures.1 c.begin_epoch-begun.ensures.images

pub returns-in-Err-clause-refused : goal.returns-in-Err-clause-refused
returns-in-Err-clause-refused g c =
    let whole = c.join-whole in
    let journal : whole.result.journal ≡ c.args.store.journal = whole.ensures.1 ∙ ap (λ (v : Grouped _). v.journal) c.store.view_is in
    let engine : whole.result.engine ≡ c.args.store.engine = whole.ensures.0 ∙ ap (λ (v : Grouped _). v.engine) c.store.view_is in
    subst (λ (x : JournalState _ × EngineModel). IsCause x.0.layout x.1 c.args.next.1.names.tables c.in-Err.why) (λ i. (journal i, engine i)) c.in-Err.ensures.refused
