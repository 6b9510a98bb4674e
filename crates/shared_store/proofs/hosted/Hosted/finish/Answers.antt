use Rattle.std.proofs.Common.{refl, subst}
use Rattle.shared_store.specs.Holding.{stage_of}
use Rattle.shared_store.specs.Lives.{LeadsTo}
use Rattle.shared_store.specs.Stages.{first_stage}
use Rattle.shared_store.proofs.hosted.Hosted.finish.Goals as goal

pub returns-clause-life : goal.returns-clause-life
returns-clause-life g c =
    let end = c.run_down-hosted.result.hosted in
    let now = stage_of end.past end.stopped (g.S.EpochServer.standing end.server) in
    record { stage = now; leads = subst (λ f. LeadsTo (first_stage (g.S.EpochServer.standing f.value)) end.entries.items now) c.run_down-hosted.ensures.first end.life.leads; server = refl }

pub returns-clause-all : goal.returns-clause-all
returns-clause-all g c = c.run_down-hosted.result.taken
