use Rattle.std.proofs.Common.{true, false, subst}
use Rattle.shared_store.specs.Ending.{IsKeptAfter}
use Rattle.shared_store.specs.Holding.{IsKept}
use Rattle.shared_store.specs.Stages.{first_stage}
use Rattle.shared_store.proofs.Adding.{no_calls_on, no_calls_taken}
use Rattle.shared_store.proofs.Keeping.{kept_after, kept_failed}
use Rattle.shared_store.proofs.Reasons.{failed_cause}
use Rattle.shared_store.proofs.running.RunningLog.write_and_end.Goals as goal

pub returns-in-Err-clause-more : goal.returns-in-Err-clause-more
returns-in-Err-clause-more g c = no_calls_taken c.args.self.hosted.entries.items c.in-Err.failed.hosted.entries.items c.in-Err.ensures.failed.0.entries

pub returns-in-Err-clause-kept : goal.returns-in-Err-clause-kept
returns-in-Err-clause-kept g c =
    let f = c.in-Err.failed in
    let e = c.in-Err.ensures.failed in
    let keep = g.S.EpochServer.keeps f.log in
    let failed = g.S.EpochServer.failed f.log in
    let after = kept_failed keep (first_stage (g.S.EpochServer.standing f.hosted.first.value)) f.total f.hosted.entries.items failed true f.failed f.kept in
    subst (λ n. IsKeptAfter keep (first_stage (g.S.EpochServer.standing c.args.self.hosted.first.value)) failed n f.hosted.entries.items) e.1
    (subst (λ x. IsKeptAfter keep (first_stage (g.S.EpochServer.standing x.value)) failed f.total f.hosted.entries.items) e.0.first after)

pub returns-in-Err-clause-checkpoint : goal.returns-in-Err-clause-checkpoint
returns-in-Err-clause-checkpoint g c =
    let f = c.in-Err.failed in
    failed_cause (g.S.EpochServer.failed f.log) (g.S.EpochServer.standing f.hosted.server).events f.error f.failed

pub returns-clause-more : goal.returns-clause-more
returns-clause-more g c =
    let old = c.args.self.hosted.entries.items in
    let mid = c.in-Ok.written.hosted.entries.items in
    no_calls_on old mid c.end_epoch.result.hosted.entries.items (no_calls_taken old mid c.in-Ok.ensures.written.0.entries) c.end_epoch.ensures.more

pub returns-clause-kept : goal.returns-clause-kept
returns-clause-kept g c =
    let r = c.end_epoch.result in
    let w = c.in-Ok.ensures.written in
    let keep = g.S.EpochServer.keeps r.log in
    let total = c.in-Ok.written.hosted.commits in
    kept_after keep (first_stage (g.S.EpochServer.standing c.args.self.hosted.first.value)) (g.S.EpochServer.failed r.log) c.args.self.total total r.hosted.entries.items w.1
    (subst (λ f. ∥ IsKept keep (first_stage (g.S.EpochServer.standing f.value)) false total r.hosted.entries.items ∥₁) w.0.first c.end_epoch.ensures.kept)
