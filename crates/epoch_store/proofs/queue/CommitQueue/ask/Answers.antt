use Rattle.std.proofs.Common.{rules, ◌≡◌, ◌+◌, ◌∙◌, sym, ap, subst, arith}
use Rattle.teb_rules.specs.declared.names.Reply.TheVariants.{Committed}
use Rattle.record_journal.specs.Journal.{IsBody}
use Rattle.epoch_store.specs.Gathering.{size_of}
use Rattle.epoch_store.specs.Queue.{Queue}
use Rattle.epoch_store.proofs.Gathered.{size-push}
use Rattle.epoch_store.proofs.queue.CommitQueue.ask.Goals as goal

pub returns-clause-left : goal.returns-clause-left
returns-clause-left g c =
    let was = c.self.inside in
    let body = c.in-Ok.body.items in
    let is : c.answer-reply.result ≡ Committed = search rules in
    let record_of = c.answer-reply.ensures.commits body is c.in-Ok.ensures.prepared in
    let pushed = c.push.ensures.records record_of.0 (subst (IsBody record_of.0) (sym c.deref.ensures.value) record_of.1) in
    let grown = ap size_of pushed ∙ size-push c.queued.new.group.records record_of.0 body record_of.1 in
    let same = ap size_of c.queued.ensures.same_group in
    let before = ap (λ (q : Queue _). q.left + size_of q.waiting) c.self.view_is in
    omega (arith, c.in-Ok.ensures.fits, c.len.ensures, grown, same, before)
