use Rattle.std.proofs.Common.{false, refl, subst, sym}
use Rattle.std.specs.Prelude.{MatchResult}
use Rattle.shared_store.specs.Holding.{IsKept}
use Rattle.shared_store.specs.Reasons.{IsCheckpointed, IsReason}
use Rattle.shared_store.specs.Stages.{first_stage}
use Rattle.shared_store.proofs.Adding.{no_calls}
use Rattle.shared_store.proofs.Living.{kept_on}
use Rattle.shared_store.proofs.Results.{match_err, match_ok}
use Rattle.shared_store.proofs.running.WrittenLog.end_epoch.Goals.{in-Ok, in-Err}
use Rattle.shared_store.proofs.running.WrittenLog.end_epoch.Goals as goal

pub returns-in-Some-clause-more : goal.returns-in-Some-clause-more
returns-in-Some-clause-more g c = no_calls c.args.self.hosted.entries.items

pub returns-in-Some-clause-kept : goal.returns-in-Some-clause-kept
returns-in-Some-clause-kept g c =
    let w = c.args.self in
    let x = g.S.EpochServer.standing w.hosted.server in
    kept_on (first_stage (g.S.EpochServer.standing w.hosted.first.value)) x x w.hosted.past w.hosted.commits w.hosted.stopped w.hosted.entries.items w.hosted.life refl w.taken
    (g.S.EpochServer.keeps w.log) w.runs w.kept

pub returns-clause-kept : goal.returns-clause-kept
returns-clause-kept g c =
    let n = c.begin_next-hosted.result in
    let same = c.begin_next-hosted.ensures.same in
    let keep = g.S.EpochServer.keeps n.log in
    subst (λ k. ∥ IsKept keep (first_stage (g.S.EpochServer.standing c.args.self.hosted.first.value)) false k n.hosted.entries.items ∥₁) same.1
    (subst (λ f. ∥ IsKept keep (first_stage (g.S.EpochServer.standing f.value)) false n.hosted.commits n.hosted.entries.items ∥₁) same.0 n.kept)

pub returns-clause-checkpoint : goal.returns-clause-checkpoint
returns-clause-checkpoint g c =
    let n = c.begin_next-hosted in
    let keep = g.S.EpochServer.keeps n.result.log in
    let failed = g.S.EpochServer.failed n.result.log in
    let x = g.S.EpochServer.standing n.result.hosted.server in
    elim c.match-begun.branch [
      | in-Ok w ↦ subst (λ o. MatchResult o (λ _. IsCheckpointed keep failed x) (IsReason failed x.events)) (sym w.checkpoint-is)
          (match_ok _ _ n.result.begun w.in-Ok.field-0 w.in-Ok.is n.ensures.begun)
      | in-Err w ↦ subst (λ o. MatchResult o (λ _. IsCheckpointed keep failed x) (IsReason failed x.events)) (sym w.checkpoint-is)
          (match_err _ _ n.result.begun w.in-Err.error w.in-Err.is n.ensures.begun)
    ]
