use Rattle.std.proofs.Common.{◌≡◌, ◌+◌, ◌∙◌, length, subst}
use Rattle.commit_laws.specs.Commits.{commit_count}
use Rattle.commit_laws.proofs.Prefixes.{length-records}
use Rattle.engine_core.specs.EngineModel.{EngineModel}
use Rattle.epoch_store.specs.Gathering.{Gathering}
use Rattle.engine_store.proofs.group.EngineGroup.waiting.Goals as goal

pub returns-clause-others : goal.returns-clause-others
returns-clause-others g c =
    let e = c.self.inside.group.engine.engine in
    subst (λ (s : Gathering EngineModel _). s.journal.acknowledged + length s.waiting ≡ commit_count s.engine.events) c.self.view_is (c.waiting.ensures.others ∙ length-records e.store.setup e.events)
