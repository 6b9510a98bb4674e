use Rattle.std.proofs.Common.{◌≡◌, ◌+◌, ◌-◌, ℕ, sym, ◌∙◌, ap, arith, refl, subst}
use Rattle.commit_journal.specs.Kept.{IsFull}
use Rattle.epoch_journal.specs.Layout.{half_size}
use Rattle.epoch_store.specs.Gathering.{size_of}
use Rattle.engine_store.specs.Telling.{TellsCommits}
use Rattle.grouped_store.specs.Grouped.{Grouped}
use Rattle.grouped_store.proofs.Grouping.{asked_ahead, counted, grown, of_halves, still_tells}
use Rattle.grouped_store.proofs.store.GroupedStore.ask_ahead.Goals as goal

pub invariant_of-self : goal.invariant_of-self
invariant_of-self g c =
    let d = g.D.Disk in
    let s = c.self.inside in
    let o = c.ask.ensures in
    asked_ahead d.seen d.may_leave (of_halves s.queue s.journal) c.self.invariant (of_halves c.ask.new.self s.journal) refl o.store o.names o.since o.left

pub returns-clause-still : goal.returns-clause-still
returns-clause-still g c n image =
    let s = c.self.inside in
    let queue = c.ask.new.self in
    let o = c.ask.ensures in
    let more = grown c.ask.result s.queue queue o.waits o.others o.not_asked in
    let is = c.self.invariant in
    subst (λ (v : Grouped _). TellsCommits v.journal.layout v.engine.store v.engine.events n image → TellsCommits v.journal.layout queue.engine.store queue.engine.events n image) c.self.view_is
    (still_tells s.journal.layout s.queue queue is.until more.0 n image o.store is.since (o.since is.until is.since) more.1)

pub returns-clause-all : goal.returns-clause-all
returns-clause-all g c =
    let d = g.D.Disk in
    let s = c.self.inside in
    let o = c.ask.ensures in
    let new = of_halves c.ask.new.self s.journal in
    counted d.seen d.may_leave new (asked_ahead d.seen d.may_leave (of_halves s.queue s.journal) c.self.invariant new refl o.store o.names o.since o.left)

pub returns-clause-full : goal.returns-clause-full
returns-clause-full g c is =
    let s = c.self.inside in
    let left = c.self.invariant.left (sym c.is_stopped.ensures ∙ c.if-is_stopped.false) in
    let room : s.queue.left ≡ half_size s.journal.layout.capacity - (s.journal.end + size_of s.queue.waiting) = omega (arith, left) in
    subst (λ (v : Grouped _). IsFull v.engine.events (half_size v.journal.layout.capacity - (v.journal.end + size_of v.waiting)) c.args.session c.args.request) c.self.view_is
    (subst (λ (n : ℕ). IsFull s.queue.engine.events n c.args.session c.args.request) room (c.ask.ensures.full is))
