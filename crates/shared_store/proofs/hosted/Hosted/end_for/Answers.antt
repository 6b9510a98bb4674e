use Rattle.std.proofs.Common.{sym, subst}
use Rattle.shared_store.specs.Stages.{first_stage}
use Rattle.shared_store.specs.Turning.{AddsEnd}
use Rattle.shared_store.proofs.hosted.Hosted.end_for.Goals as goal

pub returns-clause-ended : goal.returns-clause-ended
returns-clause-ended g c =
    let old = c.args.self.now in
    subst (λ t. AddsEnd (first_stage (g.S.EpochServer.standing old.first.value)) c.args.by c.args.session old.entries.items t.items) (sym c.keep_notice.ensures.same.0)
    (c.in_ok-reply.reply, c.in_ok-reply.ensures.adds)
